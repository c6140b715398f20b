use Rattle.std.proofs.Common.{rules}
use Rattle.cbor4ii_items.proofs.WholeHeads.{runs_seen, runs_stayed, progress_stayed}
use Rattle.cbor4ii_items.proofs.floats.take_float.Goals as goal

pub returns-in-Ok-Whole-clause-runs : goal.returns-in-Ok-Whole-clause-runs
returns-in-Ok-Whole-clause-runs g c =
    runs_seen (rw c.in-Ok-Whole.field-0-is at c.in-Ok-Whole.ensures) c.args.name.now

pub returns-in-Ok-Cut-clause-runs : goal.returns-in-Ok-Cut-clause-runs
returns-in-Ok-Cut-clause-runs g c =
    runs_stayed (rw c.in-Ok-Cut.field-0-is at c.in-Ok-Cut.ensures)
    c.take_longer_float.ensures.runs

pub returns-in-Ok-Cut-clause-progress : goal.returns-in-Ok-Cut-clause-progress
returns-in-Ok-Cut-clause-progress g c = search (rules, progress_stayed)

pub returns-in-Ok-Cut-2-clause-runs : goal.returns-in-Ok-Cut-2-clause-runs
returns-in-Ok-Cut-2-clause-runs g c =
    runs_stayed (rw c.in-Ok-Cut.field-0-is at c.in-Ok-Cut.ensures) c.float_by_bytes.ensures.runs

pub returns-in-Ok-Cut-2-clause-progress : goal.returns-in-Ok-Cut-2-clause-progress
returns-in-Ok-Cut-2-clause-progress g c = search (rules, progress_stayed)

pub returns-in-Ok-Other-clause-runs : goal.returns-in-Ok-Other-clause-runs
returns-in-Ok-Other-clause-runs g c =
    runs_stayed (rw c.in-Ok-Other.field-0-is at c.in-Ok-Other.ensures)
    c.float_by_bytes-in-Ok-Other.ensures.runs

pub returns-in-Ok-Other-clause-progress : goal.returns-in-Ok-Other-clause-progress
returns-in-Ok-Other-clause-progress g c = search (rules, progress_stayed)
