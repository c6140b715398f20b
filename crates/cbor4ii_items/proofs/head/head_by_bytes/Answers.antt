use Rattle.cbor4ii_items.specs.Laws.ReadingHeads.{runs_head}
use Rattle.cbor4ii_items.proofs.head.head_by_bytes.Goals as goal

pub returns-clause-runs : goal.returns-clause-runs
returns-clause-runs g c =
    runs_head _ _ _ _ c.if-first-major.false c.in_ok-first.ensures.runs c.argument.ensures.runs
