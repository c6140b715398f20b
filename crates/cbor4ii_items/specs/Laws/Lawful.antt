-- What the laws of a type say of its reading alone, each by a name of its own; and a head before
-- what it counts, with other bytes after both.
use Rattle.std.proofs.Common.{◌≡◌, ℕ, ◌+◌, ◌<◌, ◌≤◌, List, [], ◌++◌, length, drop, take, sym, ap}
use Rattle.std.proofs.Common.{◌∙◌, subst}
use Rattle.cbor4ii_items.specs.Decoding.{Reads}
use Rattle.cbor4ii_items.specs.Heads.{ReadsHead}
use Rattle.cbor4ii_items.specs.Laws.Heads.{head_alone, head_read}
use Rattle.cbor4ii_items.specs.Laws.Prefixes.{two_prefixes, after_prefix}

module _ {V : Type 0} (reads : Reads V) where
  -- one value, one size and one cost
  abbrev pub IsOneReading : (V → V → Type 0) → Type 0
  IsOneReading same = (xs : List ℕ) (v w : V) (n m c d : ℕ) → reads xs v n c → reads xs w m d
      → (n ≡ m) × (c ≡ d) × same v w

  abbrev pub IsOneSize : Type 0
  IsOneSize = (xs : List ℕ) (v w : V) (n m c d : ℕ) → reads xs v n c → reads xs w m d → n ≡ m

  abbrev pub StaysWithin : Type 0
  StaysWithin = (xs : List ℕ) (v : V) (n c : ℕ) → reads xs v n c → n ≤ length xs

  abbrev pub TakesSome : Type 0
  TakesSome = (xs : List ℕ) (v : V) (n c : ℕ) → reads xs v n c → 1 ≤ n

  -- whatever follows
  abbrev pub StandsAlone : Type 0
  StandsAlone = (xs ys : List ℕ) (v : V) (n c : ℕ) → reads xs v n c
      → reads (take n xs ++ ys) v n c

pub head_kept : (major width : ℕ) (xs ys : List ℕ) (v before count n : ℕ) → major < 8
    → ReadsHead major width xs v before → n ≡ before + count
    → ReadsHead major width (take n xs ++ ys) v before
    × (drop before (take n xs ++ ys) ≡ take count (drop before xs) ++ ys)
head_kept major width xs ys v before count n small h size =
    let tail = take count (drop before xs) ++ ys in
    let same = two_prefixes before count n xs ys size in (
      subst (λ zs. ReadsHead major width zs v before) (sym same)
          (head_alone major width xs tail v before h),
      ap (drop before) same
          ∙ after_prefix before xs tail (head_read [] major width xs v before small h).1,
    )
