-- Keys of a struct's fields: how they are read and written, and what tells them apart.
use Rattle.std.proofs.Common.{◌≡◌, ◌<◌, ◌^◌, ℕ, zero, suc, List, [], ◌∷◌, length, Bool, true}
use Rattle.std.proofs.Common.{IsTrue}
use Rattle.std.proofs.Common.{ltb, ltb-true, arith}
use Rattle.std.specs.Prelude.{◌&&◌, IsUtf8, codes}
use Rattle.std.specs.Str.{IsAscii}
use denote.Ref.{Bor}
use Rattle.std.proofs.lemmas.Str.{IsUtf8-from_ascii}
use Rattle.std.proofs.lemmas.Str.Ascii.{IsAscii-nil}
use Rattle.cbor4ii_items.specs.Decoding.{Reads, RejectsAt, Format}
use Rattle.cbor4ii_items.specs.NeverBoth.{NeverBoth}
use Rattle.cbor4ii_items.specs.OneError.{OneError}
use Rattle.cbor4ii_items.specs.ReadBack.{ReadsBack}
use Rattle.cbor4ii_items.specs.Strings.{ReadsText, RejectsText, definite_string}
use Rattle.cbor4ii_items.specs.Laws.Containers.{both}
use Rattle.cbor4ii_items.specs.Laws.LeavesBack.{text_back}
use Rattle.cbor4ii_items.specs.Laws.StringErrors.{text_error}
use Rattle.cbor4ii_items.specs.Laws.Strings.{text_one, text_within, text_positive}
use Rattle.cbor4ii_items.specs.Laws.StringsApart.{text_apart}
use Rattle.cbor4ii_ser.specs.Item.{encoded}
use Rattle.cbor4ii_ser.specs.OneItem.{IsOneItem, canonical}
use Rattle.cbor4ii_ser.specs.Laws.OneItem.{text_is_item}
use Rattle.cbor4ii.specs.Typed.{IsLawfulReading, not_exact, typed_format}

-- a kind of keys, each told from the others by its label
pub record FieldKey : Type 1 where
  -- a key is read as its label
  pub reads : Reads (List ℕ)
  pub rejects : RejectsAt
  pub laws : IsLawfulReading reads (λ (k l : List ℕ). k ≡ l) true
  pub apart : NeverBoth reads rejects
  pub one_error : OneError rejects
  -- the item of the key that has this label
  pub item : List ℕ → List ℕ
  -- whether a program's field may have this label
  pub is_label : List ℕ → Bool
  pub back : (label : List ℕ) → IsTrue (is_label label) → ReadsBack reads (item label) label 0
  pub one : (label : List ℕ) → IsTrue (is_label label) → IsOneItem canonical (encoded (item label))

abbrev pub key_format : FieldKey → Format (List ℕ)
key_format key = typed_format key.reads (λ k l. k ≡ l) key.rejects true true

abbrev pub IsLabel : FieldKey → List ℕ → Type 0
IsLabel key label = IsTrue (key.is_label label)

-- the labels of these keys
abbrev pub labels_by : {K : Type 0} → (K → Bor (List ℕ)) → List K → List (Bor (List ℕ))
labels_by label [] = []
labels_by label (key ∷ keys) = label key ∷ labels_by label keys

-- ---- names

-- the label of a name
abbrev pub same_name : Bor (List ℕ) → Bor (List ℕ)
same_name name = name

-- a name, as every text of the program is
abbrev pub IsName : List ℕ → Type 0
IsName name = IsUtf8 name × (length name < 2 ^ 63)

abbrev pub are_ascii : List ℕ → Bool
are_ascii [] = true
are_ascii (b ∷ bs) = ltb b 128 && are_ascii bs

-- ASCII, below 256 bytes
abbrev pub is_short_ascii : List ℕ → Bool
is_short_ascii name = are_ascii name && ltb (length name) 256

all_ascii : (bs : List ℕ) → IsTrue (are_ascii bs) → IsAscii bs
all_ascii [] h i = IsAscii-nil i
all_ascii (b ∷ bs) h zero = ltb-true b 128 (both (ltb b 128) (are_ascii bs) h).0
all_ascii (b ∷ bs) h (suc i) = all_ascii bs (both (ltb b 128) (are_ascii bs) h).1 i

pub is_name : (name : List ℕ) → IsTrue (is_short_ascii name) → IsName name
is_name name h =
    let e = both (are_ascii name) (ltb (length name) 256) h in
    (IsUtf8-from_ascii name (all_ascii name e.0), omega (arith, ltb-true (length name) 256 e.1))

abbrev same_text : List ℕ → List ℕ
same_text name = name

pub name_laws : IsLawfulReading ReadsText (λ (k l : List ℕ). k ≡ l) true
name_laws = record {
  one = text_one same_text;
  within = text_within same_text;
  positive = λ e. text_positive same_text;
  alone = not_exact;
}

-- names: texts, each of which is its label (RFC 8949 section 3.1, major type 3)
abbrev pub text_key : FieldKey
text_key = record {
  reads = ReadsText;
  rejects = RejectsText (codes "str");
  laws = name_laws;
  apart = text_apart (codes "str");
  one_error = text_error (codes "str");
  item = definite_string 3;
  is_label = is_short_ascii;
  back = λ name h. (let is = is_name name h in
      text_back same_text name (omega (arith, is.1)) is.0);
  one = λ name h. (let is = is_name name h in
      text_is_item canonical name (omega (arith, is.1)) is.0);
}
