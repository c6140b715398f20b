use Rattle.cbor4ii_items.proofs.ShownLeaves.{whole_float_shown}
use Rattle.cbor4ii_items.proofs.floats.seen_float.Goals as goal

pub returns-in-Whole-clause-stands : goal.returns-in-Whole-clause-stands
returns-in-Whole-clause-stands c = whole_float_shown c.in-Whole.ensures.0 c.in-Whole.ensures.1
