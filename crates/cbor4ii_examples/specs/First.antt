-- What it answers to read the item at the beginning of an input, whatever follows it.
use Rattle.std.specs.Prelude.{ℕ, ◌≤◌, List, Result, IfOk, IfErr}
use Rattle.cbor4ii_rw.specs.Input.{limit}
use Rattle.cbor4ii_rw.specs.declared.error.DecodeError.{DecodeError}
use Rattle.cbor4ii_items.specs.Decoding.{Reads, Format}
use Rattle.cbor4ii_items.specs.Whole.{NotBegun}

-- the value is read from the beginning of the input, within the steps
abbrev pub BeginsInput : {V : Type 0} → Reads V → List ℕ → V → Type 0
BeginsInput reads bytes v = (count cost : ℕ) × reads bytes v count cost × (cost ≤ limit)

-- a call that reads the item at the beginning of an input
pub record DecodesFirst {V E : Type 0} (format : Format V) (bytes : List ℕ)
    (answer : Result V (DecodeError E)) : Type 0 where
  -- an accepted value begins the input
  pub accepts : IfOk answer (BeginsInput format.reads bytes)
  -- an error is one of reading
  pub rejects : IfErr answer (NotBegun format bytes)
