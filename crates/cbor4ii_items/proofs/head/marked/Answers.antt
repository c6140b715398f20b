use Rattle.cbor4ii_items.specs.Laws.Running.{runs_byte}
use Rattle.cbor4ii_items.proofs.Marked.{runs_marked}
use Rattle.cbor4ii_items.proofs.head.marked.Goals as goal

pub returns-clause-runs : goal.returns-clause-runs
returns-clause-runs g c =
    runs_marked _ _ _ c.if-byte-least.false c.if-greatest-byte.false
    (runs_byte c.in_ok-byte.ensures.runs c.in_ok-byte.ensures.byte c.advance.ensures)
