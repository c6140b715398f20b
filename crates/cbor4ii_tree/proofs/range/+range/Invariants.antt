use Rattle.std.proofs.Common.{take}
use Rattle.cbor4ii_tree.specs.Basis.{Item.{AreItems, AreItemPairs}, View.{items_view, pairs_view}}
use Rattle.cbor4ii_tree.proofs.range.+range.Given as goal

abbrev pub invariant-items_in_range-loop-item : goal.invariant-items_in_range-loop-item
invariant-items_in_range-loop-item l = AreItems (items_view (take l.item-index l.items))

abbrev pub invariant-pairs_in_range-loop-pair : goal.invariant-pairs_in_range-loop-pair
invariant-pairs_in_range-loop-pair l = AreItemPairs (pairs_view (take l.pair-index l.pairs))
