use Rattle.cbor4ii_items.specs.Laws.Running.{look_shows}
use Rattle.cbor4ii_items.specs.Laws.ItemOrEnd.{runs_end}
use Rattle.cbor4ii_items.proofs.sequence.is_at_end.Goals as goal

pub returns-in-Some-clause-runs : goal.returns-in-Some-clause-runs
returns-in-Some-clause-runs g c =
    rw c.is_empty.ensures (runs_end (look_shows _ _ _ _ c.in-Some.is c.look.follows.holds-at-none)
    c.in-Some.ensures.prefix)
