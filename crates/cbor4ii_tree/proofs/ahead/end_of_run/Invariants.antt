use Rattle.std.proofs.Common.{◌-◌, ◌≤◌}
use Rattle.cbor4ii_tree.specs.Inner.Runs.{BeginsRun}
use Rattle.cbor4ii_tree.proofs.ahead.end_of_run.Given as goal

abbrev pub invariant-loop-left : goal.invariant-loop-left
invariant-loop-left l = record {
  few : l.left ≤ l.most;
  run : BeginsRun (l.most - l.left) l.size l.shown;
}

abbrev pub decreases-loop-left : goal.decreases-loop-left
decreases-loop-left l = l.left
