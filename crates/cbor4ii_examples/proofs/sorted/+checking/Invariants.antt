use Rattle.std.proofs.Common.{◌↔◌, drop}
use Rattle.cbor4ii_tree.specs.Basis.View.{items_view, pairs_view}
use Rattle.cbor4ii_examples.specs.Sorted.{EachMapOfItems, EachMapOfPairs, KeysAscend}
use Rattle.cbor4ii_examples.proofs.sorted.+checking.Given as goal

-- what holds of the rest holds of all
abbrev pub invariant-are_sorted-loop-item : goal.invariant-are_sorted-loop-item
invariant-are_sorted-loop-item l =
    EachMapOfItems KeysAscend (items_view l.items)
    ↔ EachMapOfItems KeysAscend (items_view (drop l.item-index l.items))

abbrev pub invariant-pairs_are_sorted-loop-pair : goal.invariant-pairs_are_sorted-loop-pair
invariant-pairs_are_sorted-loop-pair l =
    EachMapOfPairs KeysAscend (pairs_view l.pairs)
    ↔ EachMapOfPairs KeysAscend (pairs_view (drop l.pair-index l.pairs))
