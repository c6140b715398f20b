use Rattle.cbor4ii_ser.specs.Laws.Joining.{serializes_as, serializes_then, serializes_err}
use Rattle.cbor4ii_ser.specs.Listed.{labels_of}
use Rattle.cbor4ii_ser.proofs.FieldPairs.{counted}
use Rattle.cbor4ii_ser.proofs.listed.put_fields.Goals as goal

pub returns-in-Ok : goal.returns-in-Ok
returns-in-Ok g c =
    serializes_as _ (counted g.K.Key.item (g.V.NestedFields.items c.args.fields
    (labels_of g.K.Key.label c.args.keys.now)) c.pair_count.result c.pair_count.ensures.counts)
    (serializes_then _ _ c.serialize_pairs.result c.in-Ok.ensures.writes c.serialize_pairs.ensures)

pub returns : goal.returns
returns g c =
    serializes_as _ (counted g.K.Key.item (g.V.NestedFields.items c.args.fields
    (labels_of g.K.Key.label c.args.keys.now)) c.pair_count.result c.pair_count.ensures.counts)
    (serializes_err _ _ c.in-Err.ensures.writes)
