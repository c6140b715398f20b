use Rattle.std.proofs.Common.{ap, ◌∙◌, subst₂}
use Rattle.cbor4ii_items.specs.{Magnitude.without_leading_zeros, Numbers.definite_string}
use Rattle.cbor4ii_tree.specs.Calls.Order.{Compares}
use Rattle.cbor4ii_tree.proofs.order.cmp_bignums.Goals as goal

pub returns : goal.returns
returns c =
    subst₂ (λ s t. Compares c.cmp_strings.result (definite_string 2 s) (definite_string 2 t))
    (c.without_leading_zeros.ensures ∙ ap without_leading_zeros c.to_be_bytes-a.ensures)
    (c.without_leading_zeros-2.ensures ∙ ap without_leading_zeros c.to_be_bytes-b.ensures)
    c.cmp_strings.ensures
