use Rattle.cbor4ii_items.specs.Laws.Running.{look_shows}
use Rattle.cbor4ii.proofs.Names.{takes_shown}
use Rattle.cbor4ii.proofs.serde.de.names.take_shown_name.Goals as goal

pub returns-in-Whole : goal.returns-in-Whole
returns-in-Whole g c =
    takes_shown (look_shows _ _ _ _ c.in-Some.is c.look.follows.holds-at-none)
    c.in-Some.ensures.prefix c.in-Whole.ensures c.advance.ensures
