use Rattle.std.proofs.Common.{rules}
use Rattle.cbor4ii_items.specs.Laws.Calls.{of_exact}
use Rattle.cbor4ii.specs.Typed.{answer_of}
use Rattle.cbor4ii.specs.TypedParts.{part_of}
use Rattle.cbor4ii.proofs.Promised.{tell}
use Rattle.cbor4ii.proofs.Steps.{under_if, no_step_left}
use Rattle.cbor4ii.proofs.serde.de.stepped.under_step.Goals as goal

pub returns-then-not-step_in : goal.returns-then-not-step_in
returns-then-not-step_in g c = search (rules, of_exact, no_step_left)

pub returns : goal.returns
returns g c =
    under_if (part_of g.T.Typed.promise) c.args.name.now c.if-not-step_in.ensures.budget
    c.step_in.ensures.others c.step_out.ensures.others (answer_of c.deserialize-outcome.result)
    c.step_out.ensures.budget (tell g.T.Typed.promise (answer_of c.deserialize-outcome.result)
    c.deserialize-outcome.ensures)
