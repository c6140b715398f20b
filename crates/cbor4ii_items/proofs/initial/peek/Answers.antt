use Rattle.cbor4ii_items.proofs.NextByte.{next_decodes}
use Rattle.cbor4ii_items.proofs.initial.peek.Goals as goal

pub returns-clause-decodes : goal.returns-clause-decodes
returns-clause-decodes g c = next_decodes _ _ c.peek.ensures.runs c.peek.ensures.memory
