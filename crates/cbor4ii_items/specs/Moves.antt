-- How a decoding call leaves the reader, whatever it answers and whether or not the bytes are
-- known.
use Rattle.std.specs.Prelude.{◌≡◌, ℕ, ◌+◌, ◌≤◌, Bool, false, List, length, take, drop, None, Some}
use Rattle.std.specs.Prelude.{Option, Result, Ok, Err, IsTrue, MatchBool}
use Rattle.cbor4ii_rw.specs.View.{View, IfKnown}
use Rattle.cbor4ii_rw.specs.Reader.{Failed, counts}
use Rattle.cbor4ii_rw.specs.declared.error.DecodeError.{DecodeError}
use Rattle.cbor4ii_items.specs.Head.{IsBytes}
use Rattle.cbor4ii_items.specs.InputError.{is_read, is_depth_overflow}

-- the first n of the bytes xs were taken, and what is left is known
pub record Took (xs : List ℕ) (new : Option (List ℕ)) (n : ℕ) : Type 0 where
  pub left : new ≡ Some (drop n xs)
  pub within : n ≤ length xs
  pub bytes : IsBytes (take n xs)

-- known bytes stay known, and what is left is an end of them
abbrev pub Ends : Option (List ℕ) → Option (List ℕ) → Type 0
Ends old new = IfKnown old (λ xs. (n : ℕ) × Took xs new n)

-- known bytes may be known no more; where they are, what is left is an end of them
abbrev pub EndsOrForgets : Option (List ℕ) → Option (List ℕ) → Type 0
EndsOrForgets old new = IfKnown old (λ xs. IfKnown new (λ ys. (n : ℕ) × (ys ≡ drop n xs)))

-- It holds where the bytes are known before and after, and where there is a count.
-- The count of the bytes that were taken rises by as many as are gone.
abbrev pub Counted : View → View → Type 0
Counted old new =
    IfKnown old.known (λ xs. IfKnown new.known
    (λ ys. (n : ℕ) → n + length ys ≡ length xs → new.taken ≡ counts n old.taken))

-- The reader did not fail: what is left is an end, and the budget is as before.
pub record Kept (old new : View) : Type 0 where
  pub rest : Ends old.known new.known
  pub counted : Counted old new
  pub bound : new.bound ≤ old.bound
  pub budget : new.budget ≡ old.budget
  pub failures : new.failures ≡ old.failures
  pub zero_copy : IsTrue old.zero_copy → IsTrue new.zero_copy
  pub remembers : IsTrue old.remembers → IsTrue new.remembers
  pub ends_at : new.ends_at ≡ old.ends_at

-- What is left, where still known, is an end, and a reader that remembers still reports it.
-- The reader failed, and the budget is as before.
pub record ReaderFailed (old new : View) : Type 0 where
  pub rest : EndsOrForgets old.known new.known
  pub left : IsTrue old.remembers → Ends old.known new.known
  pub bound : new.bound ≤ old.bound
  pub budget : new.budget ≡ old.budget
  pub failures : Failed old.failures new.failures
  pub zero_copy : IsTrue old.zero_copy → IsTrue new.zero_copy
  pub remembers : IsTrue old.remembers → IsTrue new.remembers
  pub ends_at : new.ends_at ≡ old.ends_at

-- the answer says that the reader failed
abbrev pub is_failure : {V E : Type 0} → Result V (DecodeError E) → Bool
is_failure (Ok v) = false
is_failure (Err e) = is_read e

-- the answer says that no step was left
abbrev pub lacks_step : {V E : Type 0} → Result V (DecodeError E) → Bool
lacks_step (Ok v) = false
lacks_step (Err e) = is_depth_overflow e

-- A step is lacking only where there is a budget.
-- `Read` is answered exactly where the reader failed in the call.
pub record Moves {V E : Type 0} (old new : View) (answer : Result V (DecodeError E)) : Type 0 where
  pub by : MatchBool (is_failure answer) (ReaderFailed old new) (Kept old new)
  pub depth : old.budget ≡ None → lacks_step answer ≡ false

-- P, where the answer says that the reader failed
abbrev pub OnRead : {V E : Type 0} → Result V (DecodeError E) → Type 0 → Type 0
OnRead answer P = IsTrue (is_failure answer) → P
