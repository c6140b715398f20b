-- What one input is rejected with.
use Rattle.std.specs.Prelude.{◌≡◌, ℕ, List, Option}
use Rattle.cbor4ii_items.specs.InputError.{InputError}
use Rattle.cbor4ii_items.specs.NeverBoth.{NeverBoth}
use Rattle.cbor4ii_items.specs.Decoding.{RejectsAt, Format}

-- bytes are rejected with one error, which leaves one rest
abbrev pub OneError : RejectsAt → Type 0
OneError rejects =
    (xs : List ℕ) (budget : Option ℕ) (e f : InputError) (x y : List ℕ)
    → rejects xs budget e x → rejects xs budget f y → (e ≡ f) × (x ≡ y)

-- what is rejected is not read, and is rejected with one error that leaves one rest
pub record RejectsOnce {V : Type 0} (format : Format V) : Type 0 where
  pub apart : NeverBoth format.reads format.rejects
  pub one_error : OneError format.rejects
