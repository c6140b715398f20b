-- Answers whose error is left elsewhere.
use Rattle.std.specs.Prelude.{Option, Some, None, Result, Ok, Err}
use Rattle.cbor4ii_rw.specs.declared.error.DecodeError.TheVariants.{OutOfMemory}
use Rattle.cbor4ii.specs.declared.serde.de.error.DecodeError.{DecodeError}
use Rattle.cbor4ii.specs.declared.serde.de.error.DecodeError.TheVariants.{Core}

-- the error that was left; where there is none it counts as one of memory
abbrev pub typed_error_left : {E : Type 0} → Option (DecodeError E) → DecodeError E
typed_error_left None = Core OutOfMemory
typed_error_left (Some e) = e

-- a value, or none and an error
abbrev pub typed_value_or_error : {V E : Type 0} → Option V → Option (DecodeError E)
    → Result V (DecodeError E)
typed_value_or_error (Some v) failure = Ok v
typed_value_or_error None failure = Err (typed_error_left failure)
