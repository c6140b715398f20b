use Rattle.std.proofs.lemmas.Result.{err_from_is_err_and}
use Rattle.cbor4ii_ser.specs.Laws.Joining.{serializes_both, serializes_both_err}
use Rattle.cbor4ii_ser.proofs.serializer.Serializer.tuple_variant_head.Goals as goal

pub returns-in_err-variant_head : goal.returns-in_err-variant_head
returns-in_err-variant_head g c =
    let p = err_from_is_err_and c.from_residual.result c.from_residual.ensures.1 in
    rw (p.1, p.2) (serializes_both_err _ c.in_err-variant_head.ensures)

pub returns : goal.returns
returns g c = serializes_both _ c.in_ok-variant_head.ensures c.array_head.ensures.writes
