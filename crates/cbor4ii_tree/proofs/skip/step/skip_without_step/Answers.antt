use Rattle.std.proofs.Common.{Some, refl}
use Rattle.cbor4ii_tree.proofs.skip_calls.Deeper.{counts_none, ended, cut, rejected_none}
use Rattle.cbor4ii_tree.proofs.skip_calls.Doing.{apart_leaf, does_value}
use Rattle.cbor4ii_tree.proofs.skip.step.skip_without_step.Goals as goal

pub returns-in-None : goal.returns-in-None
returns-in-None g c =
    apart_leaf (cut c.args.among _ _ (λ xs z rest h. h (Some 0)) (rw c.in-None.ensures at
    c.ends.ensures.does)) (rw c.in-None.ensures at c.ends.ensures.spares) tt c.ends.ensures.stays

pub returns-then-ended : goal.returns-then-ended
returns-then-ended g c =
    apart_leaf (ended c.args.among _ (λ xs ys h. h (Some 0)) _
    (does_value c.if-ended.true (rw c.in-Some.ensures at c.ends.ensures.does))) tt (
      counts_none c.args.among ((rw c.in-Some.ensures at c.ends.ensures.ended) c.if-ended.true),
      refl,
    ) c.ends.ensures.stays

pub returns : goal.returns
returns g c =
    rw c.leave.ensures (apart_leaf (rejected_none c.args.among c.requires.no_step refl (does_value
    c.if-ended.false (rw c.in-Some.ensures at c.ends.ensures.does))) refl tt c.ends.ensures.stays)
