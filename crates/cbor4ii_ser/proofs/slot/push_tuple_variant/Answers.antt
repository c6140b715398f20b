use Rattle.std.proofs.Common.{◌≡◌, None, rules}
use Rattle.cbor4ii_ser.proofs.Pushing.{pushes_both, pushes_both_out}
use Rattle.cbor4ii_ser.proofs.slot.push_tuple_variant.Goals as goal

pub returns : goal.returns
returns g c = pushes_both c.in_ok-push_variant.ensures c.push_parts_head.ensures

pub returns-in_err-push_variant : goal.returns-in_err-push_variant
returns-in_err-push_variant g c =
    let e : c.from_residual.result ≡ None = search rules in
    pushes_both_out _ e c.in_err-push_variant.ensures
