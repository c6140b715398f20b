use Rattle.std.proofs.Common.{Err, rules}
use Rattle.std.specs.Prelude.{codes}
use Rattle.cbor4ii.specs.Variants.{form_format}
use Rattle.cbor4ii.proofs.Steps.{breaks_stepped, no_step_left, under}
use Rattle.cbor4ii.proofs.serde.de.enum_accessor.begin_enum.Goals as goal

pub returns-then-not-step_in-clause-rejected : goal.returns-then-not-step_in-clause-rejected
returns-then-not-step_in-clause-rejected g c = search (rules, no_step_left)

pub returns-in-Err-clause-rejected : goal.returns-in-Err-clause-rejected
returns-in-Err-clause-rejected g c =
    under form_format (codes "enum") c.if-not-step_in.ensures.budget c.step_in.ensures.others
    c.step_out.ensures.others (Err c.in-Err.error) c.step_out.ensures.budget
    c.in-Err.ensures.decodes

pub returns-in-Err-clause-failed : goal.returns-in-Err-clause-failed
returns-in-Err-clause-failed g c = search (rules, breaks_stepped)
