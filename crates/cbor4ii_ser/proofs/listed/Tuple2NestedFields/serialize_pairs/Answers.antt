use Rattle.cbor4ii_ser.specs.Laws.Joining.{serializes_as, serializes_then, serializes_err}
use Rattle.cbor4ii_ser.proofs.FieldPairs.{field_then}
use Rattle.cbor4ii_ser.proofs.listed.Tuple2NestedFields.serialize_pairs.Goals as goal

pub returns-in-Ok : goal.returns-in-Ok
returns-in-Ok g c =
    serializes_as _ (field_then g.P.FieldValue.before g.met.P.FieldValue.joins g.K.Key.item
    g.K.Key.label g.V.NestedFields.items c.args.self.now c.args.keys.now c.key-item.result
    c.in-len1-up.len_at_least c.key-item.is)
    (serializes_then _ _ c.serialize_pairs.result c.in-Ok.ensures c.serialize_pairs.ensures)

pub returns-in-Err : goal.returns-in-Err
returns-in-Err g c =
    serializes_as _ (field_then g.P.FieldValue.before g.met.P.FieldValue.joins g.K.Key.item
    g.K.Key.label g.V.NestedFields.items c.args.self.now c.args.keys.now c.key-item.result
    c.in-len1-up.len_at_least c.key-item.is)
    (serializes_err _ _ c.in-Err.ensures)
