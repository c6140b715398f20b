use Rattle.std.proofs.Common.{ap, ◌∙◌, subst}
use Rattle.cbor4ii_items.specs.{Magnitude.without_leading_zeros, Numbers.definite_string}
use Rattle.cbor4ii_tree.specs.{Calls.Encoding.value_bytes, Calls.Order.Compares}
use Rattle.cbor4ii_tree.proofs.order.cmp_with_bignum.Goals as goal

pub returns : goal.returns
returns c =
    subst (λ t. Compares c.cmp_with_string.result (value_bytes c.args.value.now)
    (definite_string 2 t)) (c.without_leading_zeros.ensures ∙ ap without_leading_zeros
    c.to_be_bytes-bytes.ensures) c.cmp_with_string.ensures
