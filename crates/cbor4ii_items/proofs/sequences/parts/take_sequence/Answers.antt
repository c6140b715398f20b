use Rattle.std.proofs.Common.{rules}
use Rattle.cbor4ii_items.proofs.SequenceAnswers.{no_step_left, under}
use Rattle.cbor4ii_items.proofs.sequences.parts.take_sequence.Goals as goal

pub returns-then-not-step_in : goal.returns-then-not-step_in
returns-then-not-step_in g c = search (rules, no_step_left)

pub returns : goal.returns
returns g c =
    under c.args.major g.Q.Sequence.part c.args.name.now c.if-not-step_in.ensures.budget
    c.step_in.ensures.others c.step_out.ensures.others c.take_inside-outcome.result
    c.step_out.ensures.budget c.take_inside-outcome.ensures
