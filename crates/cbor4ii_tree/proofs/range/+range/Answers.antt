use Rattle.std.proofs.Common.{rules}
use Rattle.cbor4ii_tree.proofs.values.InRange.{items_step, pairs_step, array_in_range, map_in_range}
use Rattle.cbor4ii_tree.proofs.range.+range.Goals as goal

pub in_range-returns-in-Array : goal.in_range-returns-in-Array
in_range-returns-in-Array t c = search (rules, array_in_range)

pub in_range-returns-in-Map : goal.in_range-returns-in-Map
in_range-returns-in-Map t c = search (rules, map_in_range)

pub items_in_range-loop-item-preserved : goal.items_in_range-loop-item-preserved
items_in_range-loop-item-preserved t c =
    items_step _ _ _ c.loop-item-test.true c.item-item.is c.loop-item.invariant c.in_range.ensures

pub pairs_in_range-loop-pair-preserved : goal.pairs_in_range-loop-pair-preserved
pairs_in_range-loop-pair-preserved t c = search (rules, pairs_step)
