-- What a lawful reader does: how its view moves in each call.
use Rattle.std.specs.Prelude.{◌≡◌, ℕ, ◌+◌, ◌-◌, ◌^◌, ◌<◌, ◌≤◌, ◌⊎◌, Bool, true, false, nat_lt}
use Rattle.std.specs.Prelude.{if◌then◌else◌, min, max, List, [], length, drop, None, Some, Option}
use Rattle.std.specs.Prelude.{IsTrue}
use Rattle.std.specs.Io.{StartsWith}
use Rattle.cbor4ii_rw.specs.View.{View, IfKnown}

-- the count of failures rose, or stands at its greatest
abbrev pub Failed : ℕ → ℕ → Type 0
Failed old new = (old < new) ⊎ (new ≡ 2 ^ 64 - 1)

-- known bytes stay known, and as they were
abbrev pub Keeps : Option (List ℕ) → Option (List ℕ) → Type 0
Keeps old new = IfKnown old (λ xs. new ≡ Some xs)

-- known bytes may be known no more; where they are, they stay as they were
abbrev pub KeepsOrForgets : Option (List ℕ) → Option (List ℕ) → Type 0
KeepsOrForgets old new = IfKnown old (λ xs. IfKnown new (λ ys. ys ≡ xs))

-- known bytes lose their first n
abbrev pub Drops : ℕ → Option (List ℕ) → Option (List ℕ) → Type 0
Drops n old new = IfKnown old (λ xs. new ≡ Some (drop n xs))

-- n more bytes are taken, where they are counted
abbrev pub counts : ℕ → Option ℕ → Option ℕ
counts n None = None
counts n (Some taken) = Some (taken + n)

-- the shown bytes are a prefix of the bytes xs, empty only where no byte is left or none is wanted
pub record IsPrefix (want : ℕ) (shown xs : List ℕ) : Type 0 where
  pub begins : StartsWith xs shown
  pub within : length shown ≤ length xs
  pub ends : 0 < want → length shown ≡ 0 → xs ≡ []

-- as many bytes as are wanted, or all that are left
abbrev pub IsEnough : ℕ → List ℕ → List ℕ → Type 0
IsEnough want shown xs = min want (length xs) ≤ length shown

-- The first arguments are a number of bytes that is free, and which windows above 1 are allowed.
-- n is the least of `most` and a window that is allowed, or of `most` and what is free
abbrev pub AsksWithin : ℕ → (ℕ → Type 0) → ℕ → ℕ → Type 0
AsksWithin free Allows most n = (window : ℕ) × (1 ≤ window) × (2 ≤ window → Allows window)
    × (n ≡ min most (max free window))

-- What a prefix that was shown leaves: no byte is taken, and what is shown may be advanced.
pub record Shows (shown : List ℕ) (old new : View) : Type 0 where
  pub known : Keeps old.known new.known
  pub bound : new.bound ≤ old.bound
  pub advanceable : length shown ≤ new.advanceable
  pub budget : new.budget ≡ old.budget
  pub failures : new.failures ≡ old.failures
  pub taken : new.taken ≡ old.taken
  pub zero_copy : IsTrue old.zero_copy → IsTrue new.zero_copy
  pub remembers : IsTrue old.remembers → IsTrue new.remembers
  pub ends_at : new.ends_at ≡ old.ends_at

-- What a reader that failed leaves: no byte is taken, but bytes may be known no more.
pub record ReaderFails (old new : View) : Type 0 where
  pub known : KeepsOrForgets old.known new.known
  pub kept : IsTrue old.remembers → Keeps old.known new.known
  pub bound : new.bound ≤ old.bound
  pub budget : new.budget ≡ old.budget
  pub failures : Failed old.failures new.failures
  pub taken : new.taken ≡ old.taken
  pub zero_copy : IsTrue old.zero_copy → IsTrue new.zero_copy
  pub remembers : IsTrue old.remembers → IsTrue new.remembers
  pub ends_at : new.ends_at ≡ old.ends_at

-- n bytes are taken, and nothing else moves
pub record Advances (n : ℕ) (old new : View) : Type 0 where
  pub known : Drops n old.known new.known
  pub bound : new.bound + n ≤ old.bound
  pub advanceable : old.advanceable ≤ new.advanceable + n
  pub budget : new.budget ≡ old.budget
  pub failures : new.failures ≡ old.failures
  pub taken : new.taken ≡ counts n old.taken
  pub zero_copy : IsTrue old.zero_copy → IsTrue new.zero_copy
  pub remembers : IsTrue old.remembers → IsTrue new.remembers
  pub ends_at : new.ends_at ≡ old.ends_at

-- these bytes, with which the known ones begin, are taken, and nothing else moves
pub record Takes (bytes : List ℕ) (old new : View) : Type 0 where
  pub known : IfKnown old.known (λ xs. StartsWith xs bytes ×
      (new.known ≡ Some (drop (length bytes) xs)))
  pub bound : new.bound + length bytes ≤ old.bound
  pub budget : new.budget ≡ old.budget
  pub failures : new.failures ≡ old.failures
  pub taken : new.taken ≡ counts (length bytes) old.taken
  pub zero_copy : IsTrue old.zero_copy → IsTrue new.zero_copy
  pub remembers : IsTrue old.remembers → IsTrue new.remembers
  pub ends_at : new.ends_at ≡ old.ends_at

-- nothing moves but the budget
pub record KeepsAllButBudget (old new : View) : Type 0 where
  pub known : new.known ≡ old.known
  pub bound : new.bound ≡ old.bound
  pub advanceable : new.advanceable ≡ old.advanceable
  pub failures : new.failures ≡ old.failures
  pub taken : new.taken ≡ old.taken
  pub zero_copy : new.zero_copy ≡ old.zero_copy
  pub remembers : new.remembers ≡ old.remembers
  pub ends_at : new.ends_at ≡ old.ends_at

-- one step is taken, or none is left; without a budget there is always one
abbrev pub StepsIn : Option ℕ → Option ℕ → Bool → Type 0
StepsIn None new true = new ≡ None
StepsIn None new false = ⊥
StepsIn (Some left) new true = (0 < left) × (left < 2 ^ 64) × (new ≡ Some (left - 1))
StepsIn (Some left) new false = (left ≡ 0) × (new ≡ Some 0)

-- one step more, up to usize's greatest number
abbrev pub step_back : Option ℕ → Option ℕ
step_back None = None
step_back (Some left) = Some (if nat_lt left (2 ^ 64 - 1) then left + 1 else left)
