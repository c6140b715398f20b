use Rattle.std.proofs.{Common.{arith, codes, refl, ◌∙◌}, lemmas.Result.err_from_is_err_and}
use Rattle.cbor4ii_tree.specs.{Calls.Rejections.Missing, Inner.HeadParts.DropsBytes}
use Rattle.cbor4ii_tree.proofs.skip_calls.Doing.{reached_start, reached_by, reached_then}
use Rattle.cbor4ii_tree.proofs.skip_calls.Doing.{reached_as, does_ok, does_err}
use Rattle.cbor4ii_tree.proofs.skip_calls.Bytes.{dropped_none, dropped_more, dropped_cut}
use Rattle.cbor4ii_tree.proofs.skip_calls.Bytes.{dropped_all}
use Rattle.cbor4ii_tree.proofs.unseen.skip_bytes.Goals as goal

pub loop-missing-init : goal.loop-missing-init
loop-missing-init g c =
    record { reached = reached_start _ _ (dropped_none c.args.count); stays = λ t. refl }

pub returns-in_err-missing-clause-does : goal.returns-in_err-missing-clause-does
returns-in_err-missing-clause-does g c =
    let p = err_from_is_err_and c.from_residual.result c.from_residual.ensures.1 in
    rw (p.1, p.2) (does_err _ _ _ (Missing (codes "ignored-any") c.loop-missing.missing) _
    (dropped_cut _ _ _) c.loop-missing.invariant.reached c.in_err-missing.ensures.does)

pub loop-missing-preserved : goal.loop-missing-preserved
loop-missing-preserved g c = record {
  reached = reached_then _ _ _ (λ xs ys zs. dropped_more _ _ _ xs ys zs)
      c.loop-missing.invariant.reached (reached_by c.in_ok-missing.ensures.does);
  stays = λ t. c.in_ok-missing.ensures.stays t ∙ c.loop-missing.invariant.stays t;
}

pub returns-clause-does : goal.returns-clause-does
returns-clause-does g c =
    does_ok _ _ (reached_as _ (DropsBytes c.args.count) (λ xs ys. dropped_all _ _ xs ys
    (omega (arith, c.loop-missing-test.false))) c.loop-missing.invariant.reached)
