-- An optional item as an array of no item or one: what it is encoded as, and how it is rejected
-- (RFC 8949 section 3.1).
use Rattle.std.specs.Prelude.{◌≡◌, ◌≢◌, ℕ, zero, suc, ◌+◌, List, [], ◌∷◌, ◌++◌, take, drop, Bool}
use Rattle.std.specs.Prelude.{true, false, Option, Some, None, codes}
use Rattle.cbor4ii_rw.specs.declared.error.Len.TheVariants.{Indefinite}
use Rattle.cbor4ii_items.specs.Head.{indefinite_head}
use Rattle.cbor4ii_items.specs.InputError.{InputError, require_length, len_of}
use Rattle.cbor4ii_items.specs.Reading.{Reading, give, reject, ◌>=>◌}
use Rattle.cbor4ii_items.specs.ReadHead.{length_at}
use Rattle.cbor4ii_items.specs.Heads.{ReadsHead}
use Rattle.cbor4ii_items.specs.Lengths.{RejectsLength}
use Rattle.cbor4ii_items.specs.Numbers.{shortest_head}
use Rattle.cbor4ii_items.specs.Decoding.{Reads, RejectsAt, Format, leaf_format}

-- ---- what is read

-- the head of an array of no item, or of one: whether an item is to follow
abbrev pub ReadsFew : Reads Bool
ReadsFew xs false n c = ReadsHead 4 8 xs 0 n × (c ≡ 0)
ReadsFew xs true n c = ReadsHead 4 8 xs 1 n × (c ≡ 0)

-- the head of an array of one item, and what the type reads after it
pub record ReadsOne {V : Type 0} (reads : Reads V) (xs : List ℕ) (v : V) (n c : ℕ) : Type 0 where
  pub before : ℕ
  pub head : ReadsHead 4 8 xs 1 before
  pub count : ℕ
  pub item : reads (drop before xs) v count c
  pub bytes : n ≡ before + count

-- an array of no item is none, and an array of one item is some
abbrev pub ReadsMaybe : {V : Type 0} → Reads V → Reads (Option V)
ReadsMaybe reads xs None n c = ReadsHead 4 8 xs 0 n × (c ≡ 0)
ReadsMaybe reads xs (Some v) n c = ReadsOne reads xs v n c

-- ---- how it is rejected

-- no array's head; an indefinite length, or a count of two and more, after the head
pub data RejectsFew (xs : List ℕ) (budget : Option ℕ) (err : InputError)
    (rest : List ℕ) : Type 0 where
  few_head_rejected : RejectsLength (codes "array") 4 xs budget err rest
      → RejectsFew xs budget err rest
  few_indefinite : take 1 xs ≡ indefinite_head 4 ∷ [] → err ≡ require_length (codes "maybe")
      Indefinite
      → rest ≡ drop 1 xs → RejectsFew xs budget err rest
  few_other : (count before : ℕ) → ReadsHead 4 8 xs count before → count ≢ 0 → count ≢ 1
      → err ≡ require_length (codes "maybe") (len_of count) → rest ≡ drop before xs
      → RejectsFew xs budget err rest

-- the head's error, or the item's
pub data RejectsMaybe (rejects : RejectsAt) (xs : List ℕ) (budget : Option ℕ) (err : InputError)
    (rest : List ℕ) : Type 0 where
  maybe_head_rejected : RejectsFew xs budget err rest → RejectsMaybe rejects xs budget err rest
  maybe_item_rejected : (before : ℕ) → ReadsHead 4 8 xs 1 before
      → rejects (drop before xs) budget err rest → RejectsMaybe rejects xs budget err rest

abbrev pub few_format : Format Bool
few_format = leaf_format ReadsFew RejectsFew

-- ---- the head, read from the beginning of bytes

abbrev pub few_by : Option ℕ → Reading Bool
few_by None = reject (require_length (codes "maybe") Indefinite)
few_by (Some zero) = give false
few_by (Some (suc zero)) = give true
few_by (Some (suc (suc k))) = reject (require_length (codes "maybe") (len_of (suc (suc k))))

abbrev pub few_at : Reading Bool
few_at = length_at (codes "array") 4 >=> few_by

-- ---- what is written

-- an array of no item for none, and an array of the item for some
abbrev pub maybe_bytes : {V : Type 0} → (V → List ℕ) → Option V → List ℕ
maybe_bytes bytes None = shortest_head 4 0
maybe_bytes bytes (Some v) = shortest_head 4 1 ++ bytes v
