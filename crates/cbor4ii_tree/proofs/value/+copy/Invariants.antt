use Rattle.std.proofs.Common.{◌≡◌, take, map}
use Rattle.cbor4ii_tree.specs.Basis.View.{view, pair_view}
use Rattle.cbor4ii_tree.proofs.value.+copy.Given as goal

abbrev pub invariant-copy_items-loop-item : goal.invariant-copy_items-loop-item
invariant-copy_items-loop-item l =
    map view l.copies.items ≡ map view (take l.item-index l.item-items)

abbrev pub invariant-copy_pairs-loop-pair : goal.invariant-copy_pairs-loop-pair
invariant-copy_pairs-loop-pair l =
    map pair_view l.copies.items ≡ map pair_view (take l.pair-index l.pair-items)
