use Rattle.cbor4ii_items.specs.Laws.ReaderFails.{break_decodes}
use Rattle.cbor4ii_items.proofs.indefinite.is_break.Goals as goal

pub returns-clause-decodes : goal.returns-clause-decodes
returns-clause-decodes g c =
    break_decodes _ c.take_break.ensures.runs c.take_break.ensures.memory
