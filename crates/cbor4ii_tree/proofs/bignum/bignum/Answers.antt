use Rattle.std.proofs.Common.{ap, ◌∙◌}
use Rattle.cbor4ii_items.specs.Magnitude.{without_leading_zeros}
use Rattle.cbor4ii_tree.specs.{Basis.Item.{bytes_item, tag}, Basis.View.view}
use Rattle.cbor4ii_tree.proofs.{values.Heads.view-Bytes, values.Encoding.view-Tag}
use Rattle.cbor4ii_tree.proofs.bignum.bignum.Goals as goal

pub returns : goal.returns
returns c =
    view-Tag c.args.number c.in_ok-new.field-0 ∙ ap (tag c.args.number) (ap view
    c.in_ok-new.ensures.ok ∙ view-Bytes _ ∙ ap bytes_item (c.in_ok-content.ensures.items ∙
    c.without_leading_zeros.ensures ∙ ap without_leading_zeros c.to_be_bytes-bytes.ensures))
