use Rattle.std.proofs.Common.{◌↔◌, drop}
use Rattle.cbor4ii_tree.specs.Calls.Access.{HasEqualKeys, HasTwoPairs, PairHasMapWith}
use Rattle.cbor4ii_tree.specs.{Calls.Access.SomeHasMapWith, Basis.View.{items_view, pairs_view}}
use Rattle.cbor4ii_tree.proofs.equal_keys.+within.Given as goal

-- what the rest has is what all have
abbrev pub invariant-repeats_in_items-loop-item : goal.invariant-repeats_in_items-loop-item
invariant-repeats_in_items-loop-item l =
    (SomeHasMapWith HasEqualKeys (items_view l.items)
    ↔ SomeHasMapWith HasEqualKeys (items_view (drop l.item-index l.items)))
    × (SomeHasMapWith HasTwoPairs (items_view (drop l.item-index l.items))
    → SomeHasMapWith HasTwoPairs (items_view l.items))

abbrev pub invariant-repeats_in_pairs-loop-pair : goal.invariant-repeats_in_pairs-loop-pair
invariant-repeats_in_pairs-loop-pair l =
    (PairHasMapWith HasEqualKeys (pairs_view l.pairs)
    ↔ PairHasMapWith HasEqualKeys (pairs_view (drop l.pair-index l.pairs)))
    × (PairHasMapWith HasTwoPairs (pairs_view (drop l.pair-index l.pairs))
    → PairHasMapWith HasTwoPairs (pairs_view l.pairs))
