-- What a reader reports of itself as it stands, for contracts alone.
use Rattle.std.specs.Prelude.{◌≡◌, ℕ, ◌+◌, Bool, List, length, Option, Some}
use Rattle.std.specs.Borrow.{Bor}

pub record View : Type 0 where
  -- the bytes that are still to come, where the reader reports them
  pub known : Option (List ℕ)
  -- no more bytes than this can still come
  pub bound : ℕ
  -- as many bytes may be advanced
  pub advanceable : ℕ
  -- the steps that are left, or none where they are not limited
  pub budget : Option ℕ
  -- how often the reader failed; the count stands still at u64's greatest number
  pub failures : ℕ
  -- how many bytes were taken in all, where the reader counts them
  pub taken : Option ℕ
  -- each fill is long, and shows what is wanted or all that is left
  pub zero_copy : Bool
  -- where it fails, known bytes stay known
  pub remembers : Bool
  -- the place right after the bytes to come, where they stand in one piece of memory and the
  -- reader reports it: the number of the piece, and how far into it
  pub ends_at : Option (ℕ × ℕ)

-- a fact of the known bytes
abbrev pub IfKnown : Option (List ℕ) → (List ℕ → Type 0) → Type 0
IfKnown known P = (xs : List ℕ) → known ≡ Some xs → P xs

-- the place of a slice's first byte: the number of the piece of memory, and how far into it
abbrev pub place_of : Bor (List ℕ) → ℕ × ℕ
place_of bytes = bytes.ref_ptr

-- the place right after a slice
abbrev pub place_after : Bor (List ℕ) → ℕ × ℕ
place_after bytes = (bytes.ref_ptr.0, bytes.ref_ptr.1 + length bytes.now)

-- the bytes to come, where they and the place of their end are reported, begin at this place
abbrev pub BeginsAt : ℕ × ℕ → View → Type 0
BeginsAt place view = (end : ℕ × ℕ) → view.ends_at ≡ Some end
    → IfKnown view.known (λ xs. end ≡ (place.0, place.1 + length xs))
