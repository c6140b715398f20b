use Rattle.std.proofs.Common.{rules}
use Rattle.cbor4ii_items.specs.Laws.Calls.{of_exact}
use Rattle.cbor4ii_items.specs.Sequences.{inside_of, in_list}
use Rattle.cbor4ii.specs.Typed.{parts_answer}
use Rattle.cbor4ii.proofs.Steps.{no_step_left, under_if}
use Rattle.cbor4ii.proofs.serde.de.parts.take_sequence.Goals as goal

pub returns-then-not-step_in : goal.returns-then-not-step_in
returns-then-not-step_in g c = search (rules, of_exact, no_step_left)

pub returns : goal.returns
returns g c =
    let inside = inside_of in_list g.Q.Sequence.name g.Q.Sequence.major g.Q.Sequence.part in
    under_if inside c.args.step.now c.if-not-step_in.ensures.budget c.step_in.ensures.others
    c.step_out.ensures.others (parts_answer c.take_inside-outcome.result)
    c.step_out.ensures.budget c.take_inside-outcome.ensures
