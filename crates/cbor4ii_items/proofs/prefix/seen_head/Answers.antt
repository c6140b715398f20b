use Rattle.cbor4ii_items.proofs.ShownLeaves.{whole_head_shown}
use Rattle.cbor4ii_items.proofs.prefix.seen_head.Goals as goal

pub returns-in-Whole-clause-stands : goal.returns-in-Whole-clause-stands
returns-in-Whole-clause-stands c = whole_head_shown c.in-Whole.ensures
