use Rattle.std.proofs.Common.{Ok, Err, rules}
use Rattle.cbor4ii_items.specs.Laws.Calls.{of_exact, exactly_ok}
use Rattle.cbor4ii.specs.TypedParts.{part_of}
use Rattle.cbor4ii.proofs.Going.{next_end, next_part, next_rejected, next_err, may_go_on}
use Rattle.cbor4ii.proofs.Going.{left_started, left_ended, tried_started, shrinks_by}
use Rattle.cbor4ii.proofs.Promised.{tell}
use Rattle.cbor4ii.proofs.serde.de.accessor.Accessor.next_element.Goals as goal

pub returns-in-Ok-clause-decodes : goal.returns-in-Ok-clause-decodes
returns-in-Ok-clause-decodes g c =
    of_exact (next_part _ (part_of g.T.Typed.promise)
    (rw c.in-Ok-true.field-0-test at c.in-Ok-true.ensures.decodes)
    (exactly_ok (tell g.T.Typed.promise (Ok _) c.in-Ok.ensures)))

pub returns-in-Err-deserialize-clause-decodes : goal.returns-in-Err-deserialize-clause-decodes
returns-in-Err-deserialize-clause-decodes g c =
    next_err _ (part_of g.T.Typed.promise)
    (rw c.in-Ok-true.field-0-test at c.in-Ok-true.ensures.decodes)
    (tell g.T.Typed.promise (Err _) c.in-Err-deserialize.ensures)

pub returns-in-Ok-false-clause-decodes : goal.returns-in-Ok-false-clause-decodes
returns-in-Ok-false-clause-decodes g c = search (rules, of_exact, next_end)

pub returns-in-Err-clause-decodes : goal.returns-in-Err-clause-decodes
returns-in-Err-clause-decodes g c =
    next_rejected _ (part_of g.T.Typed.promise) c.in-Err.ensures.decodes

pub returns-in-Ok-clause-goes_on : goal.returns-in-Ok-clause-goes_on
returns-in-Ok-clause-goes_on g c = search (rules, left_started, shrinks_by)

pub returns-in-Err-deserialize-clause-goes_on : goal.returns-in-Err-deserialize-clause-goes_on
returns-in-Err-deserialize-clause-goes_on g c = search (rules, tried_started, may_go_on)

pub returns-in-Ok-false-clause-goes_on : goal.returns-in-Ok-false-clause-goes_on
returns-in-Ok-false-clause-goes_on g c = search (rules, left_ended)

pub returns-in-Err-clause-goes_on : goal.returns-in-Err-clause-goes_on
returns-in-Err-clause-goes_on g c = search rules
