use Rattle.std.proofs.Common.{◌≡◌, None, rules}
use Rattle.cbor4ii_ser.proofs.Pushing.{pushes_then, pushes_out}
use Rattle.cbor4ii_ser.proofs.slot.put_both.Goals as goal

pub returns-in_err-put_value : goal.returns-in_err-put_value
returns-in_err-put_value g c =
    let e : c.from_residual.result ≡ None = search rules in
    pushes_out _ e c.in_err-put_value.ensures

pub returns : goal.returns
returns g c = pushes_then _ _ c.in_ok-put_value.ensures c.put_value-2.ensures
