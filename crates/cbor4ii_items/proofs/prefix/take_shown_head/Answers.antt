use Rattle.cbor4ii_items.specs.Laws.Running.{look_shows}
use Rattle.cbor4ii_items.proofs.WholeHeads.{took_whole}
use Rattle.cbor4ii_items.proofs.prefix.take_shown_head.Goals as goal

pub returns-in-Whole : goal.returns-in-Whole
returns-in-Whole g c =
    took_whole (look_shows _ _ _ _ c.in-Some.is c.look.follows.holds-at-none)
    c.in-Some.ensures.prefix c.in-Whole.ensures c.advance.ensures
