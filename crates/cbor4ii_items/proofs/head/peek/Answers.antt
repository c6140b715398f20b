use Rattle.cbor4ii_items.specs.Laws.Running.{look_shows, runs_end, runs_peek}
use Rattle.cbor4ii_items.proofs.head.peek.Goals as goal

pub returns-then-shown-eq0-clause-runs : goal.returns-then-shown-eq0-clause-runs
returns-then-shown-eq0-clause-runs g c =
    runs_end (look_shows _ _ _ _ c.in-Some.is c.look.follows.holds-at-none) c.in-Some.ensures.prefix
    c.if-shown-eq0.true

pub returns-else-shown-eq0-clause-runs : goal.returns-else-shown-eq0-clause-runs
returns-else-shown-eq0-clause-runs g c =
    runs_peek _ _ (look_shows _ _ _ _ c.in-Some.is c.look.follows.holds-at-none)
    c.in-Some.ensures.prefix
    c.if-shown-eq0.false
