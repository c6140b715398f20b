use Rattle.std.proofs.Common.{arith, refl, rules, subst, sym}
use Rattle.std.proofs.lemmas.Bool.{MatchBool-at_true, MatchBool-at_false}
use Rattle.std.proofs.lemmas.Result.{err_from_is_err_and}
use Rattle.cbor4ii_items.specs.Budget.{CostFits}
use Rattle.cbor4ii_items.specs.Laws.Calls.{err, out_of_memory, of_exact}
use Rattle.cbor4ii_items.specs.Laws.SequenceParts.{count_done, count_err}
use Rattle.cbor4ii_items.specs.Laws.Steps.{kept_then, broke_then}
use Rattle.cbor4ii_items.specs.Sequences.{count_of, in_list}
use Rattle.cbor4ii.proofs.ShownParts.{begun_none, begun_run, begun_one}
use Rattle.cbor4ii.proofs.serde.de.runs.take_runs.Goals as goal

pub returns-in-Ok-false : goal.returns-in-Ok-false
returns-in-Ok-false g c =
    of_exact (out_of_memory (count_of in_list g.Q.Sequence.part c.args.count) refl
    (kept_then c.loop-alloc.invariant.0.kept
    (MatchBool-at_false _ _ c.in-Ok-false.field-0-test c.in-Ok-false.ensures.run)))

pub returns-in-Err : goal.returns-in-Err
returns-in-Err g c =
    of_exact (err (count_of in_list g.Q.Sequence.part c.args.count) (record {
      by = broke_then c.loop-alloc.invariant.0.kept c.in-Err.ensures.run;
      depth = λ none. refl;
    }) (λ out. refl) (λ xs known. tt))

pub returns-in_err-part : goal.returns-in_err-part
returns-in_err-part g c =
    let p = err_from_is_err_and c.from_residual.result c.from_residual.ensures.1 in
    let run = MatchBool-at_true _ _ c.in-Ok-true.field-0-test
    c.in-Ok-true.ensures.run in
    rw (p.1, p.2) (count_err in_list g.Q.Sequence.part g.met.Q.Sequence.lawful
    (begun_run g.Q.Sequence.part c.loop-alloc.invariant.0 run)
    (omega (arith, c.if-len-count.true)) c.in_err-part.ensures)

pub returns-in-Err-push : goal.returns-in-Err-push
returns-in-Err-push g c =
    let run = MatchBool-at_true _ _ c.in-Ok-true.field-0-test
    c.in-Ok-true.ensures.run in
    of_exact (out_of_memory (count_of in_list g.Q.Sequence.part c.args.count) refl
    (kept_then (kept_then c.loop-alloc.invariant.0.kept run.kept) c.in_ok-part.ensures.moves.by))

pub loop-alloc-init : goal.loop-alloc-init
loop-alloc-init g c = search (rules, begun_none)

pub loop-alloc-preserved : goal.loop-alloc-preserved
loop-alloc-preserved g c =
    let run = MatchBool-at_true _ _ c.in-Ok-true.field-0-test
    c.in-Ok-true.ensures.run in (
      begun_run g.Q.Sequence.part c.loop-alloc.invariant.0 run,
      c.take_run.ensures.few c.loop-alloc.invariant.1,
      subst (CostFits c.step_left-steps.result) (sym run.kept.budget) c.loop-alloc.invariant.2,
    )

pub loop-alloc-preserved-in-Ok : goal.loop-alloc-preserved-in-Ok
loop-alloc-preserved-in-Ok g c =
    let run = MatchBool-at_true _ _ c.in-Ok-true.field-0-test
    c.in-Ok-true.ensures.run in
    let kept = c.in_ok-part.ensures.moves.by in (
      begun_one g.Q.Sequence.part (begun_run g.Q.Sequence.part c.loop-alloc.invariant.0 run) kept
          c.in_ok-part.ensures.sound (search rules),
      omega (arith, c.if-len-count.true, c.push.ensures.len),
      subst (CostFits c.step_left-steps.result) (sym kept.budget)
          (subst (CostFits c.step_left-steps.result) (sym run.kept.budget)
          c.loop-alloc.invariant.2),
    )

pub returns : goal.returns
returns g c =
    of_exact (count_done in_list g.Q.Sequence.part c.loop-alloc.invariant.0
    (omega (arith, c.loop-alloc-test.false, c.loop-alloc.invariant.1)))
