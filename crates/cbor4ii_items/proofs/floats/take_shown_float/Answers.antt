use Rattle.cbor4ii_items.specs.Laws.Running.{look_shows}
use Rattle.cbor4ii_items.proofs.FloatLeaf.{took_float}
use Rattle.cbor4ii_items.proofs.floats.take_shown_float.Goals as goal

pub returns-in-Whole : goal.returns-in-Whole
returns-in-Whole g c =
    took_float (look_shows _ _ _ _ c.in-Some.is c.look.follows.holds-at-none)
    c.in-Some.ensures.prefix c.in-Whole.ensures c.advance.ensures
