use Rattle.std.proofs.Common.{refl, Ok, Err}
use Rattle.cbor4ii_examples.specs.contracts.event.EventTyped.TheImpl.{ghosts}
use Rattle.cbor4ii_items.specs.Laws.ItemOrEnd.{end_fails, item_fails, item_is_next}
use Rattle.cbor4ii_examples.proofs.LogRows.{answers, decodes_as}
use Rattle.cbor4ii_examples.proofs.log.next_event.Goals as goal

pub returns-in-Ok-clause-decodes : goal.returns-in-Ok-clause-decodes
returns-in-Ok-clause-decodes g c =
    item_is_next ghosts.promise.format
    (rw c.in-Ok-false.field-0-test at c.in-Ok-false.ensures.runs)
    (answers (Ok c.in-Ok.event)
    (decodes_as ghosts.promise refl c.read_event-reader.ensures) c.in-Ok.is)

pub returns-in-Err-answer-clause-decodes : goal.returns-in-Err-answer-clause-decodes
returns-in-Err-answer-clause-decodes g c =
    item_fails ghosts.promise.format
    (rw c.in-Ok-false.field-0-test at c.in-Ok-false.ensures.runs)
    (answers (Err c.in-Err-answer.error)
    (decodes_as ghosts.promise refl c.read_event-reader.ensures) c.in-Err-answer.is)

pub returns-in-Err-clause-decodes : goal.returns-in-Err-clause-decodes
returns-in-Err-clause-decodes g c =
    end_fails ghosts.promise.format c.in-Err.ensures.runs c.in-Err.ensures.memory
