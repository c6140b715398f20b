use Rattle.std.proofs.Common.{◌≡◌, None, rules}
use Rattle.cbor4ii_ser.proofs.Pushing.{pushes_then, pushes_out, pushes_last}
use Rattle.cbor4ii_ser.proofs.slot.put_variant_of_two.Goals as goal

pub returns-in_err-push_tuple_variant : goal.returns-in_err-push_tuple_variant
returns-in_err-push_tuple_variant g c =
    let e : c.from_residual.result ≡ None = search rules in
    pushes_out _ e c.in_err-push_tuple_variant.ensures

pub returns-in_err-put_value : goal.returns-in_err-put_value
returns-in_err-put_value g c =
    let e : c.from_residual-in_err-put_value.result ≡ None = search rules in
    pushes_then _ _ c.in_ok-push_tuple_variant.ensures (pushes_out _ e c.in_err-put_value.ensures)

pub returns : goal.returns
returns g c =
    pushes_then _ _ c.in_ok-push_tuple_variant.ensures
    (pushes_then _ _ c.in_ok-put_value.ensures (pushes_last c.put_value-2.ensures))
