use Rattle.cbor4ii_ser.specs.Item.{parts}
use Rattle.cbor4ii_ser.specs.Laws.Joining.{serializes_then}
use Rattle.cbor4ii_ser.proofs.Failing.{failed_then}
use Rattle.cbor4ii_ser.proofs.elements.Tuple2RefSerializeElements.serialize_each.Goals as goal

pub returns-in-Some : goal.returns-in-Some
returns-in-Some g c =
    serializes_then _ _ c.serialize_each.result c.in-Some.ensures.writes c.serialize_each.ensures

pub returns-in-None : goal.returns-in-None
returns-in-None g c =
    failed_then (parts (g.B.SerializeElements.elements c.args.self.now.1)) _
    c.in-None.ensures.failed c.in-None.ensures.writes
