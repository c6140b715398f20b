-- An answer whose error goes to a slot of its own.
use Rattle.std.specs.Prelude.{◌≡◌, None, Some, Option, Result, Ok, Err}

-- an `Ok` is passed on, and an error goes to its slot
abbrev pub PartsAnswer : {T E : Type 0} → Result T E → Option E → Option E → Option T → Type 0
PartsAnswer (Ok shown) before after result = (result ≡ Some shown) × (after ≡ before)
PartsAnswer (Err error) before after result = (result ≡ None) × (after ≡ Some error)
