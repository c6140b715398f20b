use Rattle.std.proofs.Common.{refl, arith, Some, Err, rules}
use Rattle.std.specs.Prelude.{codes}
use Rattle.cbor4ii.specs.Tuples.{container_head_format}
use Rattle.cbor4ii.proofs.Steps.{no_step_left, under}
use Rattle.cbor4ii.proofs.Tupled.{count_length}
use Rattle.cbor4ii.proofs.serde.de.heads.begin_tuple.Goals as goal

pub returns-then-not-step_in-clause-rejected : goal.returns-then-not-step_in-clause-rejected
returns-then-not-step_in-clause-rejected g c = search (rules, no_step_left)

pub returns-in-Ok-clause-opened : goal.returns-in-Ok-clause-opened
returns-in-Ok-clause-opened g c = record {
  within = g.S.Source.view c.step_in.new.self;
  step = c.if-not-step_in.ensures.budget;
  others = c.step_in.ensures.others;
  kept = c.in-Ok.ensures.moves.by;
  progress = omega (arith, (c.in-Ok.ensures.progress refl), c.step_in.ensures.others.bound);
  length = Some c.args.len;
  head = count_length c.in-Ok.ensures.sound;
  begun = refl;
}

pub returns-in-Err-clause-rejected : goal.returns-in-Err-clause-rejected
returns-in-Err-clause-rejected g c =
    under (container_head_format c.args.len) (codes "tuple") c.if-not-step_in.ensures.budget
    c.step_in.ensures.others c.step_out.ensures.others (Err c.in-Err.error)
    c.step_out.ensures.budget c.in-Err.ensures
