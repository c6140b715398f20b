use Rattle.std.proofs.Common.{refl, arith}
use Rattle.cbor4ii_tree.proofs.skip_calls.{Doing.{keeps_alike, keeps_then}, Deeper.one_back}
use Rattle.cbor4ii_tree.proofs.skip.step.give_back.Goals as goal

pub loop-left-init : goal.loop-left-init
loop-left-init g c = record { deeper = λ outer kept. kept; others = keeps_alike _ _ refl }

pub loop-left-preserved : goal.loop-left-preserved
loop-left-preserved g c = record {
  deeper = λ outer kept. one_back _ _ outer _ _ (omega (arith, c.loop-left-test.true)) refl
      c.step_out.ensures.budget (c.loop-left.invariant.deeper outer kept);
  others = keeps_then c.loop-left.invariant.others c.step_out.ensures.others;
}
