use Rattle.std.proofs.Common.{ap₂, ◌∙◌}
use Rattle.cbor4ii_tree.specs.Basis.Item.{bytes_item}
use Rattle.cbor4ii_tree.proofs.encodings.Order.{heads_cmp, other_heads}
use Rattle.cbor4ii_tree.proofs.order.cmp_strings.Goals as goal

pub returns-in_default : goal.returns-in_default
returns-in_default c =
    other_heads (bytes_item c.args.a.now) (bytes_item c.args.b.now) c.cmp.result c.well_formed.0.0
    c.well_formed.1.0.0 (c.cmp.ensures ∙ ap₂ heads_cmp c.shortest_parts-head.ensures
    c.shortest_parts.ensures) c.in_default.not-Equal
