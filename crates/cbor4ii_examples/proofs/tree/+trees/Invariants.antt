use Rattle.std.proofs.Common.{◌≡◌, drop}
use Rattle.cbor4ii_tree.specs.Basis.View.{items_view, pairs_view}
use Rattle.cbor4ii_examples.specs.Tree.{node_fields, nothing_seen, node_pairs_at, nodes_at}
use Rattle.cbor4ii_examples.specs.Tree.{vector_nodes}
use Rattle.cbor4ii_examples.proofs.Trees.{after}
use Rattle.cbor4ii_examples.proofs.tree.+trees.Given as goal

abbrev pub invariant-found_in-loop-pair : goal.invariant-found_in-loop-pair
invariant-found_in-loop-pair l =
    node_pairs_at (pairs_view l.pairs) nothing_seen
    ≡ node_pairs_at (pairs_view (drop l.pair-index l.pairs)) (node_fields l.found)

abbrev pub invariant-trees_of-loop-value : goal.invariant-trees_of-loop-value
invariant-trees_of-loop-value l =
    nodes_at (items_view l.values)
    ≡ after (vector_nodes l.trees) (nodes_at (items_view (drop l.value-index l.values)))
