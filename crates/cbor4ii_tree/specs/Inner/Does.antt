-- What a call of a decoder promises whose items nest: which prefix of the known bytes is accepted,
-- and where an error is found.
use Rattle.std.specs.Prelude.{◌≡◌, ℕ, List, Option, Some, None, Result, Ok, Err, IfOk, IfErr}
use Rattle.std.specs.Prelude.{IfSome, IsTrue, Bool, true, false, ◌+◌, ◌≤◌}
use Rattle.cbor4ii_rw.specs.{Reader.KeepsAllButBudget, View.{View, IfKnown}}
use Rattle.cbor4ii_rw.specs.declared.error.DecodeError.{DecodeError, TheVariants.OutOfMemory}
use Rattle.cbor4ii_items.specs.{InputError.{input_error_of, is_out_of_memory}, Moves.Moves}
use Rattle.cbor4ii_tree.specs.Basis.Cost.{Budget}
use Rattle.cbor4ii_tree.specs.Calls.{Asking.{Asking, WantsOnly}, Rejections.Rejection}

-- what a call accepts: the bytes before, the value, and the bytes after what was taken
abbrev pub Accepting : Type 0 → Type 1
Accepting V = List ℕ → V → List ℕ → Type 0

pub record Does {V E : Type 0} (accepts : Accepting V) (rejects : Rejection)
    (old new : View) (answer : Result V (DecodeError E)) : Type 0 where
  pub moves : Moves old new answer
  pub ok : IfOk answer (λ v. IfKnown old.known (λ xs.
      (ys : List ℕ) × (new.known ≡ Some ys) × accepts xs v ys))
  pub err : IfErr answer (λ e. IfKnown old.known (λ xs. IfSome (input_error_of e) (λ z.
      (ys : List ℕ) × (new.known ≡ Some ys) × rejects xs z ys)))

-- `Does`, of what is accepted and fails under a budget, here the reader's own
abbrev pub DoesUnder : {V E : Type 0} → (Budget → Accepting V) → (Budget → Rejection) →
    View → View → Result V (DecodeError E) → Type 0
DoesUnder accepts rejects old new answer =
    Does (accepts old.budget) (rejects old.budget) old new answer

-- no growth was refused
abbrev pub Spares : {V E : Type 0} → Result V (DecodeError E) → Type 0
Spares answer = IfErr answer (λ e. is_out_of_memory e ≡ false)

-- No growth is refused, and a reader that is apart keeps all but its budget.
-- `DoesUnder` over the reader's own bytes, or over lent ones that stand apart from the reader.
pub record DoesApart {V E : Type 0} (accepts : Budget → Accepting V) (rejects : Budget → Rejection)
    (leads : ℕ → ℕ → V → Type 0) (apart : Bool) (reader_old reader_new old new : View)
    (answer : Result V (DecodeError E)) : Type 0 where
  pub does : DoesUnder accepts rejects old new answer
  pub spares : Spares answer
  pub gains : IfOk answer (leads old.bound new.bound)
  pub stays : IsTrue apart → KeepsAllButBudget reader_old reader_new

-- the bound falls; by `MayStay` it may stay
abbrev pub Lowers : {V : Type 0} → ℕ → ℕ → V → Type 0
Lowers old new v = new + 1 ≤ old

abbrev pub MayStay : {V : Type 0} → ℕ → ℕ → V → Type 0
MayStay old new v = Unit {0}

-- What a call of reading promises, by itself or together with the look before it.
pub record Gives {V E : Type 0} (asks : Asking) (is : V → Type 0)
    (call : View → View → Result V (DecodeError E) → Type 0) (old new : View)
    (answer : Result V (DecodeError E)) : Type 0 where
  -- which prefix it accepts, and where an error is found
  pub does : call old new answer
  -- where memory may be refused
  pub memory : WantsOnly asks old new answer
  -- what it gives is in range, over any reader
  pub ranged : IfOk answer is
  -- the bound falls
  pub gains : IfOk answer (Lowers old.bound new.bound)

-- any value
abbrev pub Anything : {V : Type 0} → V → Type 0
Anything v = Unit {0}

-- bytes are taken without a value
abbrev pub Taking : (Budget → List ℕ → List ℕ → Type 0) → Budget → Accepting (Unit {0})
Taking takes budget xs _ ys = takes budget xs ys

-- ---- answers whose error is left elsewhere

-- the error that was left; where there is none it counts as one of memory, which Spares rules out
abbrev pub error_left : {E : Type 0} → Option (DecodeError E) → DecodeError E
error_left None = OutOfMemory
error_left (Some e) = e

-- a value, or none and an error
abbrev pub value_or_error : {V E : Type 0} → Option V → Option (DecodeError E)
    → Result V (DecodeError E)
value_or_error (Some v) failure = Ok v
value_or_error None failure = Err (error_left failure)

-- done, or an error
abbrev pub done_or_error : {E : Type 0} → Bool → Option (DecodeError E) → Result (Unit {0})
    (DecodeError E)
done_or_error true failure = Ok tt
done_or_error false failure = Err (error_left failure)
