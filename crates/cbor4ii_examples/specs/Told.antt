-- What an item stands for, or the words that reject it: the parts of a described struct, one level
-- at a time, and the codec of a type that is read so.
use Rattle.std.proofs.Common.{◌≡◌, ℕ, List, Option, None, Some, Result, Ok, Err, true, refl}
use Rattle.std.proofs.Common.{ap, rules}
use Rattle.std.specs.Prelude.{ℤ, pos, negsuc, nat_lt, if◌then◌else◌}
use Rattle.std.specs.declared.alloc.Global.{Global}
use Rattle.cbor4ii_tree.specs.Basis.Item.{Item, integer, text}
use Rattle.cbor4ii_tree.specs.Basis.View.{view}
use Rattle.cbor4ii_tree.specs.declared.value.Value.{Value}
use Rattle.cbor4ii_ser.specs.Item.{Encoding}
use Rattle.cbor4ii.specs.Any.{ReadsAny}
use Rattle.cbor4ii.specs.AnyCost.{any_cost}
use Rattle.cbor4ii.specs.Checked.{Checks, IsMade, checked_from}
use Rattle.cbor4ii.specs.Codec.{Codec, no_facts, made_back}
use Rattle.cbor4ii.specs.Held.{IsWrittenAs}
use Rattle.cbor4ii.specs.Laws.Held.{ValueOf, held_value, written_back, written_one}
use Rattle.cbor4ii.specs.Places.{put_only}
use Rattle.cbor4ii.specs.Presence.{once_or_words, or_words}
use Rattle.cbor4ii.specs.ReadBack.{IsReadBack}
use Rattle.cbor4ii.specs.TypedAny.{typed_any}
use Rattle.cbor4ii.specs.declared.serde.de.checked.Unmade.{Unmade}
use Rattle.cbor4ii.specs.declared.serde.de.checked.Unmade.TheVariants.{Rejected, OutOfMemory}
use Rattle.cbor4ii.specs.declared.serde.de.place.Single.{Single}
use Rattle.cbor4ii.specs.declared.serde.de.place.Single.TheVariants.{Absent, Present, Repeated}

-- ---- what is told of an item

-- this, or the words that reject it
abbrev pub Told : Type 0 → Type 0
Told A = Result A (List ℕ)

abbrev pub told_as : {A B : Type 0} → (A → B) → Told A → Told B
told_as f (Ok a) = Ok (f a)
told_as f (Err words) = Err words

abbrev pub told_then : {A B : Type 0} → (A → Told B) → Told A → Told B
told_then next (Ok a) = next a
told_then next (Err words) = Err words

-- the words in which it is rejected, or none
abbrev pub told_words : {A : Type 0} → Told A → Option (List ℕ)
told_words (Ok a) = None
told_words (Err words) = Some words

-- What is made where this is told: what is shown as it, its words, or want of memory.
abbrev pub MakesTold : {A W : Type 0} → (W → A) → Told A → Result W Unmade → Type 0
MakesTold shown told (Ok w) = told ≡ Ok (shown w)
MakesTold shown told (Err (Rejected words)) = told ≡ Err words.now
MakesTold shown told (Err OutOfMemory) = Unit {0}

-- ---- parts of a struct

-- an unsigned number below a limit
abbrev pub number_below : ℕ → List ℕ → ℤ → Told ℕ
number_below limit words (pos n) = if nat_lt n limit then Ok n else Err words
number_below limit words (negsuc n) = Err words

abbrev pub number_at : ℕ → List ℕ → Item → Told ℕ
number_at limit words (integer z) = number_below limit words z
number_at limit words _ = Err words

abbrev pub text_at : List ℕ → Item → Told (List ℕ)
text_at words (text bs) = Ok bs
text_at words _ = Err words

-- of a field that came once, its value; where it is missing or came twice, these words
abbrev pub the_one : {T : Type 0} → List ℕ → Single T → Told T
the_one words = once_or_words words (or_words words)

abbrev pub single_as : {A B : Type 0} → (A → B) → Single A → Single B
single_as f Absent = Absent
single_as f (Present a) = Present (f a)
single_as f Repeated = Repeated

pub single_put : {A B : Type 0} (f : A → B) (a : A) (s : Single A)
    → single_as f (put_only a s) ≡ put_only (f a) (single_as f s)
single_put f a Absent = refl
single_put f a (Present b) = refl
single_put f a Repeated = refl

pub single_one : {A B : Type 0} (f : A → B) (words : List ℕ) (s : Single A)
    → the_one words (single_as f s) ≡ told_as f (the_one words s)
single_one f words Absent = refl
single_one f words (Present b) = refl
single_one f words Repeated = refl

-- what a function that makes a level of its fields names by `using`
pub ruleset parts_told = (single_put, single_one)

-- where a part is not made, and the whole is told its words
pub untold_as : {A B T U : Type 0} (part : T → A) (shown : U → B) (told : Told A) (whole : Told B)
    (e : Unmade) → MakesTold part told (Err e)
    → ((words : List ℕ) → told ≡ Err words → whole ≡ Err words) → MakesTold shown whole (Err e)
untold_as part shown told whole (Rejected words) h to = to words.now h
untold_as part shown told whole OutOfMemory h to = tt

-- what `checked_from` names by `using` where a function makes what is told
pub told_checks : {A V W : Type 0} (shown : W → A) (tells : V → Told A) (v : V)
    (r : Result W Unmade) → MakesTold shown (tells v) r
    → Checks (λ u. told_words (tells u)) (λ u w. tells u ≡ Ok (shown w)) true v r
told_checks shown tells v (Ok w) h = record { passes = ap told_words h; made = h }
told_checks shown tells v (Err (Rejected words)) h = ap told_words h
told_checks shown tells v (Err OutOfMemory) h = refl

-- ---- a codec

-- Each that stands is written as the item of what it is shown as, and that is told of the item.
-- What is asked of a type whose values are shown as others.
pub record IsToldBack {A T : Type 0} (tells : Item → Told A) (shown : T → A)
    (encoding : T → Encoding) (item : A → Item) (stands : A → Type 0) : Type 0 where
  pub written : (t : T) → stands (shown t) → IsWrittenAs (encoding t) (item (shown t))
  pub read : (a : A) → stands a → tells (item a) ≡ Ok a

module _ {A T : Type 0} (tells : Item → Told A) (shown : T → A)
    (encoding : T → Encoding) (item : A → Item) (stands : A → Type 0)
    (h : IsToldBack tells shown encoding item stands) where
  abbrev Made : Value → T → Type 0
  Made = IsMade (λ v. told_words (tells (view v))) (λ v t. tells (view v) ≡ Ok (shown t))

  made_of : (t : T) → stands (shown t) → (held : ValueOf (item (shown t))) → Made held.value t
  made_of t s held = search rules

  pub told_back : Global → (t : T) → stands (shown t)
      → IsReadBack (checked_from (λ v. told_words (tells (view v)))
      (λ v t. tells (view v) ≡ Ok (shown t)) true typed_any).format.reads
      (encoding t) t (any_cost (item (shown t)))
  told_back alloc t s =
      let written = h.written t s in
      let held = held_value alloc (item (shown t)) written.held in
      made_back ReadsAny Made (encoding t) held.value t
      (any_cost (item (shown t))) (made_of t s held)
      (written_back (encoding t) (item (shown t)) written held)

  -- `tells` says what an item stands for, or the words that reject it.
  -- A type that is read as a value of the tree.
  abbrev pub told_codec : Codec T
  told_codec = record {
    promise = checked_from (λ v. told_words (tells (view v)))
        (λ v t. tells (view v) ≡ Ok (shown t)) true typed_any;
    encoding = encoding;
    stands = λ t. stands (shown t);
    cost = λ t. any_cost (item (shown t));
    facts = no_facts;
    back = λ hold. told_back;
    one = λ hold t s. written_one (encoding t) (item (shown t)) (h.written t s);
  }
