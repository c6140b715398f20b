use Rattle.std.proofs.Common.{arith}
use Rattle.cbor4ii_tree.proofs.skip_calls.Leaves.{run_counts, run_more}
use Rattle.cbor4ii_tree.proofs.ahead.end_of_run.Goals as goal

pub loop-left-preserved : goal.loop-left-preserved
loop-left-preserved c = record {
  few = omega (arith, c.loop-left.invariant.few);
  run =
      run_counts _ _ _ _ (omega (arith, c.loop-left-test.true, c.loop-left.invariant.few)) (run_more
      _ _ _ _ c.if-leaf-eq0.false c.loop-left.invariant.run (c.leaf_size-leaf.ensures
      c.if-leaf-eq0.false));
}
