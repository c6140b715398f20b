use Rattle.std.proofs.Common.{rules}
use Rattle.cbor4ii.proofs.Going.{start_indefinite, start_rejected}
use Rattle.cbor4ii.proofs.serde.de.accessor.Accessor.starts_element.Goals as goal

pub returns-in-Ok-true-clause-decodes : goal.returns-in-Ok-true-clause-decodes
returns-in-Ok-true-clause-decodes g c =
    rw c.in-Indefinite.is (start_indefinite
    (rw c.in-Ok-true.field-0-test at c.in-Ok-true.ensures.decodes))

pub returns-in-Ok-false-clause-decodes : goal.returns-in-Ok-false-clause-decodes
returns-in-Ok-false-clause-decodes g c =
    rw c.in-Indefinite.is (start_indefinite
    (rw c.in-Ok-false.field-0-test at c.in-Ok-false.ensures.decodes))

pub returns-in-Err-clause-decodes : goal.returns-in-Err-clause-decodes
returns-in-Err-clause-decodes g c = rw c.in-Indefinite.is (start_rejected c.in-Err.ensures.decodes)

pub returns-in-Ok-true-clause-starts : goal.returns-in-Ok-true-clause-starts
returns-in-Ok-true-clause-starts g c = search rules

pub returns-in-Ok-false-clause-starts : goal.returns-in-Ok-false-clause-starts
returns-in-Ok-false-clause-starts g c = search rules

pub returns-in-Err-clause-starts : goal.returns-in-Err-clause-starts
returns-in-Err-clause-starts g c = search rules
