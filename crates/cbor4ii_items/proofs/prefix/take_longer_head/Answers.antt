use Rattle.cbor4ii_items.proofs.WholeHeads.{runs_seen}
use Rattle.cbor4ii_items.proofs.prefix.take_longer_head.Goals as goal

pub returns-in-Ok-Whole-clause-runs : goal.returns-in-Ok-Whole-clause-runs
returns-in-Ok-Whole-clause-runs g c =
    runs_seen (rw c.in-Ok-Whole.field-0-is at c.in-Ok-Whole.ensures)
