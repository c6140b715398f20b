use Rattle.cbor4ii_ser.specs.Laws.Joining.{serializes_then}
use Rattle.cbor4ii_ser.proofs.Failing.{failed_then}
use Rattle.cbor4ii_ser.proofs.sequences.put_array.Goals as goal

pub returns-in-Some : goal.returns-in-Some
returns-in-Some g c =
    serializes_then _ _ c.put_items.result c.in-Some.ensures.writes c.put_items.ensures

pub returns-in-None : goal.returns-in-None
returns-in-None g c = failed_then _ _ c.in-None.ensures.failed c.in-None.ensures.writes
