use Rattle.std.proofs.Common.{arith}
use Rattle.cbor4ii_tree.proofs.skip_calls.Leaves.{run_counts, run_first, run_none}
use Rattle.cbor4ii_tree.proofs.ahead.run_of_items.Goals as goal

pub returns-then-leaf-eq0-clause-run : goal.returns-then-leaf-eq0-clause-run
returns-then-leaf-eq0-clause-run c = run_none c.args.shown.now

pub more_of_run-requires-clause-run : goal.more_of_run-requires-clause-run
more_of_run-requires-clause-run c =
    run_counts _ _ _ _ (omega (arith, c.if-most-eq0.false)) (run_first _ _ c.if-leaf-eq0.false
    (c.leaf_size-leaf.ensures c.if-leaf-eq0.false))
