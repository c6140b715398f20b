use Rattle.std.proofs.Common.{refl}
use Rattle.std.proofs.lemmas.Result.{err_from_is_err_and}
use Rattle.cbor4ii_ser.proofs.bounded.BoundedCollect.serialize_element.Goals as goal

pub returns-in_err-serialize-clause-left_at_error :
    goal.returns-in_err-serialize-clause-left_at_error
returns-in_err-serialize-clause-left_at_error g c =
    rw (err_from_is_err_and c.from_residual.result c.from_residual.ensures.1).1 refl
