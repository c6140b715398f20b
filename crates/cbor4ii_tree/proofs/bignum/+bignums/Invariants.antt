use Rattle.std.proofs.Common.{◌≡◌, ◌+◌, ◌*◌, take}
use Rattle.cbor4ii_tree.specs.Basis.Canonical.{with_bignums_all, with_bignums_pairs}
use Rattle.cbor4ii_tree.specs.{Basis.Item.{size, size_all, size_pairs}, Basis.View.view}
use Rattle.cbor4ii_tree.specs.Basis.View.{items_view, pairs_view}
use Rattle.cbor4ii_tree.proofs.bignum.+bignums.Given as goal

abbrev pub invariant-tag_items-loop-i : goal.invariant-tag_items-loop-i
invariant-tag_items-loop-i l =
    goal.unvisited-tag_items-loop-i l
    × (items_view (take l.i l.items) ≡ with_bignums_all (items_view (take l.i l.initial.items)))

abbrev pub invariant-tag_pairs-loop-i : goal.invariant-tag_pairs-loop-i
invariant-tag_pairs-loop-i l =
    goal.unvisited-tag_pairs-loop-i l × (pairs_view (take l.i l.pairs) ≡ with_bignums_pairs
    (pairs_view (take l.i l.initial.pairs)))

-- the size of what is walked, with the caller above its helpers
abbrev pub decreases-tag_bignums : goal.decreases-tag_bignums
decreases-tag_bignums l = 3 * size (view l.value.now)

abbrev pub decreases-tag_items : goal.decreases-tag_items
decreases-tag_items l = 3 * size_all (items_view l.items.now) + 2

abbrev pub decreases-tag_pairs : goal.decreases-tag_pairs
decreases-tag_pairs l = 3 * size_pairs (pairs_view l.pairs.now) + 2

abbrev pub decreases-tag_pair : goal.decreases-tag_pair
decreases-tag_pair l = 3 * (size (view l.pair.now.0) + size (view l.pair.now.1)) + 1
