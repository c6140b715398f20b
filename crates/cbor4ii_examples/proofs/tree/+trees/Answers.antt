use Rattle.std.proofs.Common.{◌∙◌, Ok, Err, ap, rules}
use Rattle.std.proofs.lemmas.Result.{err_from_is_err_and}
use Rattle.cbor4ii_examples.specs.Told.{untold_as}
use Rattle.cbor4ii_examples.specs.Tree.{tree_node, vector_nodes, node_fields}
use Rattle.cbor4ii_examples.proofs.Trees.{pairs-next, nodes-next, after, after-pushed}
use Rattle.cbor4ii_examples.proofs.tree.+trees.Goals as goal

pub found_in-loop-pair-preserved : goal.found_in-loop-pair-preserved
found_in-loop-pair-preserved t c = search (rules, pairs-next)

pub found_in-returns-in_err-found : goal.found_in-returns-in_err-found
found_in-returns-in_err-found t c =
    let p = err_from_is_err_and c.from_residual.result c.from_residual.ensures.1 in
    rw (p.1, p.2) (untold_as node_fields node_fields _ _ _ c.in_err-found.ensures
    (λ words told. c.loop-pair.invariant
    ∙ pairs-next _ _ _ _ (Err words) c.loop-pair-test.true c.pair-item.is told))

pub trees_of-loop-value-preserved : goal.trees_of-loop-value-preserved
trees_of-loop-value-preserved t c =
    c.loop-value.invariant
    ∙ ap (after (vector_nodes c.loop-value.trees)) (nodes-next _ _ _
    (Ok (tree_node c.in_ok-tree.tree)) c.loop-value-test.true c.value-item.is
    c.in_ok-tree.ensures) ∙ after-pushed c.loop-value.trees.items c.in_ok-tree.tree
    c.push.new.self.items _ c.in_ok-push.ensures.items

pub trees_of-returns-in_err-tree : goal.trees_of-returns-in_err-tree
trees_of-returns-in_err-tree t c =
    let p = err_from_is_err_and c.from_residual.result c.from_residual.ensures.1 in
    rw (p.1, p.2) (untold_as tree_node vector_nodes _ _ _ c.in_err-tree.ensures
    (λ words told. c.loop-value.invariant
    ∙ ap (after (vector_nodes c.loop-value.trees)) (nodes-next _ _ _ (Err words)
    c.loop-value-test.true c.value-item.is told)))
