use Rattle.cbor4ii_items.specs.Laws.Running.{look_shows}
use Rattle.cbor4ii.proofs.ShownParts.{takes_run}
use Rattle.cbor4ii.proofs.serde.de.runs.take_run.Goals as goal

pub returns-clause-run : goal.returns-clause-run
returns-clause-run g c =
    takes_run g.Q.Sequence.part.reads c.put_run-run.result.has_memory
    (look_shows _ _ _ _ c.in-Some.is c.look.follows.holds-at-none) c.in-Some.ensures.prefix
    c.put_run-run.ensures.within c.put_run-run.ensures.bytes c.requires
    c.put_run-run.ensures.put c.advance.ensures
