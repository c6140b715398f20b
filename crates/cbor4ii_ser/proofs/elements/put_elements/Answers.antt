use Rattle.std.proofs.Common.{ap}
use Rattle.cbor4ii_items.specs.Numbers.{shortest_head}
use Rattle.cbor4ii_ser.specs.Item.{encoded, one_then, parts}
use Rattle.cbor4ii_ser.specs.Laws.Joining.{serializes_as, serializes_then}
use Rattle.cbor4ii_ser.proofs.elements.put_elements.Goals as goal

pub returns-in-Some : goal.returns-in-Some
returns-in-Some g c =
    let each = g.P.SerializeElements.elements c.args.elements.now in
    serializes_as c.serialize_each.result
    (ap (λ n. one_then (encoded (shortest_head 4 n)) (parts each)) c.count.ensures)
    (serializes_then _ _ c.serialize_each.result c.in-Some.ensures.writes c.serialize_each.ensures)
