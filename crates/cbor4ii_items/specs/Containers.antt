-- What an optional item and a tagged item are encoded as, and how they are rejected.
use Rattle.std.specs.Prelude.{◌≡◌, ℕ, ◌+◌, ◌≤◌, ◌⊎◌, List, [], ◌∷◌, length, take, drop, None, Some}
use Rattle.std.specs.Prelude.{Option, codes}
use Rattle.cbor4ii_rw.specs.declared.error.Len.TheVariants.{Small}
use Rattle.cbor4ii_items.specs.InputError.{InputError, eof}
use Rattle.cbor4ii_items.specs.Heads.{ReadsHead, RejectsHead}
use Rattle.cbor4ii_items.specs.Decoding.{Reads, RejectsAt}

-- ---- an item or none

-- the first byte is null or undefined (RFC 8949 section 3.3)
abbrev pub BeginsNull : List ℕ → Type 0
BeginsNull xs = (take 1 xs ≡ 0xf6 ∷ []) ⊎ (take 1 xs ≡ 0xf7 ∷ [])

-- null and undefined are none, and what another byte begins is the type's
abbrev pub ReadsOption : {V : Type 0} → Reads V → Reads (Option V)
ReadsOption reads xs None n c = BeginsNull xs × (n ≡ 1) × (c ≡ 0)
ReadsOption reads xs (Some v) n c = (BeginsNull xs → ⊥) × (1 ≤ length xs) × reads xs v n c

-- no byte is left, or what another byte begins is rejected
abbrev pub RejectsOption : RejectsAt → RejectsAt
RejectsOption rejects [] budget err rest = (err ≡ eof (codes "option") (Small 1)) × (rest ≡ [])
RejectsOption rejects (b ∷ bs) budget err rest =
    (BeginsNull (b ∷ bs) → ⊥) × rejects (b ∷ bs) budget err rest

abbrev pub SameOption : {V : Type 0} → (V → V → Type 0) → Option V → Option V → Type 0
SameOption same None None = Unit {0}
SameOption same None (Some w) = ⊥
SameOption same (Some v) None = ⊥
SameOption same (Some v) (Some w) = same v w

-- ---- a tagged item (RFC 8949 section 3.4)

-- a tag's head, and what the type reads after it
pub record ReadsTag {V : Type 0} (reads : Reads V) (xs : List ℕ) (number : ℕ) (v : V)
    (n c : ℕ) : Type 0 where
  pub before : ℕ
  pub head : ReadsHead 6 8 xs number before
  pub count : ℕ
  pub item : reads (drop before xs) v count c
  pub bytes : n ≡ before + count

-- after a tag's head the item is rejected
pub record RejectsAfterTag (rejects : RejectsAt) (xs : List ℕ) (budget : Option ℕ)
    (err : InputError)
    (rest : List ℕ) : Type 0 where
  pub number : ℕ
  pub before : ℕ
  pub head : ReadsHead 6 8 xs number before
  pub item : rejects (drop before xs) budget err rest

-- the head's error, or the item's
abbrev pub RejectsTag : RejectsAt → RejectsAt
RejectsTag rejects xs budget err rest =
    RejectsHead (codes "tag") 6 8 xs err rest ⊎ RejectsAfterTag rejects xs budget err rest
