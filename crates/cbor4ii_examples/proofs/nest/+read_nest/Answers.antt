use Rattle.std.proofs.Common.{rules, arith, ◌∙◌}
use Rattle.std.proofs.lemmas.Result.{err_from_is_err_and}
use Rattle.cbor4ii_items.specs.Laws.Steps.{moves_then, moves_err, kept_then}
use Rattle.cbor4ii.specs.Laws.Accessors.{around, kept_ok, kept_memory, moves_at}
use Rattle.cbor4ii_examples.proofs.nest.+read_nest.Goals as goal

pub returns-in_err-starts_element-clause-moves : goal.returns-in_err-starts_element-clause-moves
returns-in_err-starts_element-clause-moves g t c =
    let p = err_from_is_err_and c.from_residual-in_err-starts_element.result
    c.from_residual-in_err-starts_element.ensures.1 in
    rw (p.1, p.2)
    (moves_at (around c.in_ok-parts.ensures.opened (moves_then c.loop-parts.invariant.kept
    (moves_err c.in_err-starts_element.ensures.decodes.moves)) (c.starts_element.ensures.starts.same_steps
    ∙ c.loop-parts.invariant.steps) c.drop-parts.ensures) (search rules))

pub returns-in_err-item-clause-moves : goal.returns-in_err-item-clause-moves
returns-in_err-item-clause-moves g t c =
    let p = err_from_is_err_and c.from_residual-in_err-item.result
    c.from_residual-in_err-item.ensures.1 in
    let steps = c.starts_element.ensures.starts.same_steps ∙ c.loop-parts.invariant.steps in
    rw (p.1, p.2) (moves_at (around c.in_ok-parts.ensures.opened (moves_then
    (kept_then c.loop-parts.invariant.kept c.in_ok-starts_element.ensures.decodes.moves.by)
    (moves_err (rw c.deserializer.ensures.value at c.in_err-item.ensures.moves))) steps
    c.drop-parts-in_err-item.ensures) (search rules))

pub returns-clause-moves : goal.returns-clause-moves
returns-clause-moves g t c =
    let steps = c.starts_element.ensures.starts.same_steps ∙ c.loop-parts.invariant.steps in
    moves_at (around c.in_ok-parts.ensures.opened (kept_ok (kept_then c.loop-parts.invariant.kept
    c.in_ok-starts_element.ensures.decodes.moves.by)) steps c.drop-parts-2.ensures) (search rules)

pub returns-then-is_err-clause-moves : goal.returns-then-is_err-clause-moves
returns-then-is_err-clause-moves g t c =
    let steps = c.starts_element.ensures.starts.same_steps ∙ c.loop-parts.invariant.steps in
    moves_at (around c.in_ok-parts.ensures.opened (kept_memory (kept_then
    (kept_then c.loop-parts.invariant.kept c.in_ok-starts_element.ensures.decodes.moves.by)
    (rw c.deserializer.ensures.value at c.in_ok-item.ensures.moves).by)) steps
    c.drop-parts-then-is_err.ensures) (search rules)

pub loop-parts-preserved : goal.loop-parts-preserved
loop-parts-preserved g t c = record {
  same = c.starts_element.ensures.starts.same_reference ∙ c.loop-parts.invariant.same;
  steps = c.starts_element.ensures.starts.same_steps ∙ c.loop-parts.invariant.steps;
  kept =
      kept_then (kept_then c.loop-parts.invariant.kept c.in_ok-starts_element.ensures.decodes.moves.by)
      (rw c.deserializer.ensures.value at c.in_ok-item.ensures.moves).by;
  within =
      omega (
        arith,
        c.loop-parts.invariant.within,
        c.in_ok-starts_element.ensures.decodes.moves.by.bound,
        (rw c.deserializer.ensures.value at c.in_ok-item.ensures.moves).by.bound,
      );
}
