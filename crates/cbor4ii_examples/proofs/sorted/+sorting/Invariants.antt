use Rattle.std.proofs.Common.{◌≡◌, ◌+◌, ◌*◌, take}
use Rattle.cbor4ii_tree.specs.{Basis.Item.{size, size_all, size_pairs}}
use Rattle.cbor4ii_tree.specs.{Basis.View.{view, items_view}}
use Rattle.cbor4ii_tree.specs.Basis.View.{pairs_view}
use Rattle.cbor4ii_examples.specs.Sorted.{sorted_items, sorted_pairs, SameItems}
use Rattle.cbor4ii_examples.proofs.SortedValues.{SameInPlace}
use Rattle.cbor4ii_examples.proofs.sorted.+sorting.Given as goal

-- those before are sorted, and those from here on as they were
abbrev pub invariant-sort_items-loop-i : goal.invariant-sort_items-loop-i
invariant-sort_items-loop-i l = goal.unvisited-sort_items-loop-i l
    × (items_view (take l.i l.items) ≡ sorted_items (items_view (take l.i l.initial.items)))
    × SameItems (items_view l.initial.items) (items_view l.items)

abbrev pub invariant-sort_pairs-loop-i : goal.invariant-sort_pairs-loop-i
invariant-sort_pairs-loop-i l = goal.unvisited-sort_pairs-loop-i l
    × (pairs_view (take l.i l.pairs) ≡ sorted_pairs (pairs_view (take l.i l.initial.pairs)))
    × SameInPlace l.initial.pairs l.pairs

-- the size of what is walked, with the caller above its helpers
abbrev pub decreases-sort_value : goal.decreases-sort_value
decreases-sort_value l = 4 * size (view l.value.now)

abbrev pub decreases-sort_items : goal.decreases-sort_items
decreases-sort_items l = 4 * size_all (items_view l.items.now) + 2

abbrev pub decreases-sort_map : goal.decreases-sort_map
decreases-sort_map l = 4 * size_pairs (pairs_view l.pairs.now.items) + 3

abbrev pub decreases-sort_pairs : goal.decreases-sort_pairs
decreases-sort_pairs l = 4 * size_pairs (pairs_view l.pairs.now) + 2

abbrev pub decreases-sort_pair : goal.decreases-sort_pair
decreases-sort_pair l = 4 * (size (view l.pair.now.0) + size (view l.pair.now.1)) + 1
