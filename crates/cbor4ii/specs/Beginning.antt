-- How a value of many parts is rejected.
use Rattle.std.specs.Prelude.{ℕ, List, true}
use Rattle.cbor4ii_items.specs.Decoding.{Reads, RejectsAt}
use Rattle.cbor4ii_items.specs.Sequences.{RejectsInside}
use Rattle.cbor4ii.specs.Stepped.{RejectsStepped}

-- The reason: no step is left, the head is rejected, or after some whole parts no byte is left or a
-- part is rejected.
-- An array or a map of such parts is rejected.
abbrev pub RejectsParts : {P : Type 0} → List ℕ → List ℕ → ℕ → Reads P → RejectsAt → RejectsAt
RejectsParts step name major reads rejects =
    RejectsStepped step (RejectsInside name major reads rejects true)
