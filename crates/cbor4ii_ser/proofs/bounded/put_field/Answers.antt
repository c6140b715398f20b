use Rattle.std.proofs.Common.{◌≡◌, None, rules}
use Rattle.cbor4ii_ser.proofs.Pushing.{pushes_then, pushes_out}
use Rattle.cbor4ii_ser.proofs.bounded.put_field.Goals as goal

pub returns-in_err-push_name : goal.returns-in_err-push_name
returns-in_err-push_name g c =
    let e : c.from_residual.result ≡ None = search rules in
    pushes_out _ e c.in_err-push_name.ensures

pub returns : goal.returns
returns g c = pushes_then _ _ c.in_ok-push_name.ensures c.put_value.ensures
