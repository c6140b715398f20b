use Rattle.std.proofs.Common.{ap₂, ◌∙◌}
use Rattle.cbor4ii_tree.specs.{Basis.Item.bytes_item, Basis.View.view}
use Rattle.cbor4ii_tree.proofs.encodings.Order.{heads_cmp, other_heads}
use Rattle.cbor4ii_tree.proofs.order.cmp_with_string.Goals as goal

pub returns-in_default : goal.returns-in_default
returns-in_default c =
    other_heads (view c.args.value.now) (bytes_item c.args.content.now) c.cmp.result
    c.head_of.ensures.short c.well_formed.1.0.0 (c.cmp.ensures ∙ ap₂ heads_cmp
    c.head_of.ensures.parts c.shortest_parts.ensures) c.in_default.not-Equal
