use Rattle.std.proofs.Common.{rules}
use Rattle.cbor4ii_items.specs.ReadHead.{head_at}
use Rattle.cbor4ii_items.proofs.WholeHeads.{runs_seen, then_runs_or_stays, then_progress}
use Rattle.cbor4ii_items.proofs.prefix.take_head.Goals as goal

pub returns-in-Ok-Whole-clause-runs : goal.returns-in-Ok-Whole-clause-runs
returns-in-Ok-Whole-clause-runs g c =
    runs_seen (rw c.in-Ok-Whole.field-0-is at c.in-Ok-Whole.ensures)

pub returns-in-Ok-Cut-clause-runs : goal.returns-in-Ok-Cut-clause-runs
returns-in-Ok-Cut-clause-runs g c name =
    then_runs_or_stays (head_at name c.args.major c.args.width) _ c.take_longer_head.result
    (rw c.in-Ok-Cut.field-0-is at c.in-Ok-Cut.ensures) (c.take_longer_head.ensures.runs name)

pub returns-in-Ok-Cut-clause-progress : goal.returns-in-Ok-Cut-clause-progress
returns-in-Ok-Cut-clause-progress g c = search (rules, then_progress)
