use Rattle.cbor4ii_ser.specs.Laws.Joining.{serializes_then, serializes_err, serializes_last}
use Rattle.cbor4ii_ser.proofs.listed.put_keyed.Goals as goal

pub returns-in-Ok : goal.returns-in-Ok
returns-in-Ok g c =
    serializes_last _ (serializes_then _ _ c.serialize.result c.in-Ok.ensures c.serialize.ensures)

pub returns-in-Err : goal.returns-in-Err
returns-in-Err g c = serializes_err _ _ (serializes_err {U = Unit {0}} _ _ c.in-Err.ensures)
