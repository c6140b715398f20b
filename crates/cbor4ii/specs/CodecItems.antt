-- Codecs of tagged values, and of types that are written and read as items of the codec.
use Rattle.std.proofs.Common.{ℕ, ◌<◌, ◌^◌, ◌++◌, List, IsTrue, ltb, ltb-true, refl}
use Rattle.std.proofs.Common.{subst}
use Rattle.cbor4ii_items.specs.Decoding.{Format, IsLawful, Reads}
use Rattle.cbor4ii_items.specs.Head.{eight}
use Rattle.cbor4ii_items.specs.Numbers.{shortest_head}
use Rattle.cbor4ii_items.specs.ReadBack.{ReadsBack}
use Rattle.cbor4ii_items.specs.Sequences.{ReadsPair}
use Rattle.cbor4ii_items.specs.Laws.NumbersBack.{head_back}
use Rattle.cbor4ii_ser.specs.Item.{Encoding, encoded, rejected, one_then}
use Rattle.cbor4ii_ser.specs.OneItem.{OneItem, canonical}
use Rattle.cbor4ii_ser.specs.Tagged.{tagged_encoding, tagged_is_item}
use Rattle.cbor4ii.specs.Codec.{Codec, no_facts}
use Rattle.cbor4ii.specs.Laws.Backs.{two_back}
use Rattle.cbor4ii.specs.Laws.StructsBack.{no_dearer}
use Rattle.cbor4ii.specs.ReadBack.{IsReadBack}
use Rattle.cbor4ii.specs.Tagged.{ReadsTagHead, after_tag, typed_tagged}
use Rattle.cbor4ii.specs.Typed.{exact_promise}

-- ---- tagged values

pub tag_head_back : (number : ℕ) → number < 2 ^ 64
    → ReadsBack (ReadsTagHead number) (shortest_head 6 number) tt 0
tag_head_back number small rest = (head_back 6 eight number small rest, refl)

pub tagged_back : {V : Type 0} (reads : Reads V) (number : ℕ) (item : Encoding) (v : V)
    (cost : ℕ) → number < 2 ^ 64 → IsReadBack reads item v cost
    → IsReadBack (λ xs v. ReadsPair (ReadsTagHead number) reads xs (after_tag v))
    (tagged_encoding number item) v cost
unfolding one_then
tagged_back reads number (rejected bytes words) v cost small back = tt
tagged_back reads number (encoded bytes) v cost small back =
    subst (ReadsBack (ReadsPair (ReadsTagHead number) reads) (shortest_head 6 number ++ bytes)
    (after_tag v)) (no_dearer cost)
    (two_back (ReadsTagHead number) reads (shortest_head 6 number) bytes (after_tag v) 0 cost
    (tag_head_back number small) back)

-- a tag of this number, below 2^64, before a value that a codec describes
abbrev pub tagged_codec : {T : Type 0} (number : ℕ) (c : Codec T) → IsTrue (ltb number (2 ^ 64))
    → Codec T
tagged_codec number c small = record {
  promise = typed_tagged number c.promise;
  encoding = λ v. tagged_encoding number (c.encoding v);
  stands = c.stands;
  cost = c.cost;
  facts = c.facts;
  back = λ hold alloc v h. tagged_back c.promise.format.reads number (c.encoding v) v (c.cost v)
      (ltb-true number (2 ^ 64) small) (c.back hold alloc v h);
  one = λ hold v h. tagged_is_item canonical number (c.encoding v)
      (ltb-true number (2 ^ 64) small) (c.one hold v h);
}

-- ---- items of the codec

-- Each value that stands is written as one canonical item, which its format reads as the value at
-- this cost, and leaves what follows it.
-- What is asked of a type that is encoded and decoded.
pub record IsItemOf {T : Type 0} (format : Format T) (bytes : T → List ℕ) (stands : T → Type 0)
    (cost : T → ℕ) : Type 0 where
  -- a value takes a byte
  pub some : IsTrue format.never_empty
  -- one input is read in one way, and what is read stands in it
  pub lawful : IsLawful format
  pub back : (v : T) → stands v → ReadsBack format.reads (bytes v) v (cost v)
  pub one : (v : T) → stands v → OneItem canonical (bytes v)

-- a type that is written by `serialize_item` and read by `deserialize_item`
abbrev pub item_codec : {T : Type 0} (format : Format T) (bytes : T → List ℕ)
    (stands : T → Type 0) (cost : T → ℕ) → IsItemOf format bytes stands cost → Codec T
item_codec format bytes stands cost h = record {
  promise = exact_promise {format = format} h.some h.lawful;
  encoding = λ v. encoded (bytes v);
  stands = stands;
  cost = cost;
  facts = no_facts;
  back = λ hold alloc. h.back;
  one = λ hold. h.one;
}
