-- One way to be rejected as another.
use Rattle.std.proofs.Common.{◌≡◌, ℕ, List, Option, Some, sym, subst, IfSome, rules}
use Rattle.cbor4ii_rw.specs.View.{View}
use Rattle.cbor4ii_rw.specs.Reader.{KeepsAllButBudget}
use Rattle.cbor4ii_rw.specs.declared.error.DecodeError.{DecodeError}
use Rattle.cbor4ii_items.specs.InputError.{InputError, input_error_of}
use Rattle.cbor4ii_items.specs.Decoding.{Reads, RejectsAt, Sound, Rejects}
use Rattle.cbor4ii_items.specs.Laws.Calls.{rejects_as}

pub stopped_as : {E : Type 0} {e : DecodeError E} {a b : View} (f g : RejectsAt)
    → ((xs : List ℕ) (budget : Option ℕ) (z : InputError) (ys : List ℕ) → f xs budget z ys
    → g xs budget z ys) → Rejects f a b e → Rejects g a b e
stopped_as {e = e} {a = a} {b = b} f g means s =
    record {
      at = λ xs known. rejects_as (input_error_of e) b.known (f xs a.budget) (g xs a.budget)
          (means xs a.budget) (s.at xs known);
    }

-- a step that is given back after it changes nothing
pub sound_after : {V : Type 0} (reads : Reads V) {a b d : View} {v : V} → KeepsAllButBudget b d
    → Sound reads a b v → Sound reads a d v
sound_after reads k s = search rules

pub stopped_after : {E : Type 0} (rejects : RejectsAt) {a b d : View} {e : DecodeError E}
    → KeepsAllButBudget b d → Rejects rejects a b e → Rejects rejects a d e
stopped_after rejects {a = a} {e = e} k s = record {
  at = λ xs known.
      subst (λ left. IfSome (input_error_of e)
      (λ z. (ys : List ℕ) × (left ≡ Some ys) × rejects xs a.budget z ys)) (sym k.known)
      (s.at xs known);
}
