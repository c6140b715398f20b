use Rattle.std.proofs.Common.{arith}
use Rattle.cbor4ii_tool.proofs.Loop.{begun, more, saw_more, unread, ended}
use Rattle.cbor4ii_tool.proofs.Loop.{stopped, not_true, ran_leaves, nothing_left}
use Rattle.cbor4ii_tool.proofs.Items.{shows_leaves, breaks_leaves, shown_leaves}
use Rattle.cbor4ii_tool.proofs.run.convert_items.Goals as goal

pub loop-is_end-init : goal.loop-is_end-init
loop-is_end-init g c = record {
  ran = begun c.args.command _ _;
  saw = λ input was xs known. omega arith;
}

pub loop-is_end-preserved : goal.loop-is_end-preserved
loop-is_end-preserved g c =
    let start = c.loop-is_end.invariant in
    record {
      ran = more c.args.command _ _ _ _ _ _ _ start.ran c.in-Ok.ensures.shows
          c.in_default.ensures.done;
      saw = saw_more c.args.command _ _ _ _ _ _ _ _ _ start.ran start.saw c.in-Ok.ensures.shows
          c.in-Ok.ensures.seen c.in_default.ensures.done;
    }

pub returns-in-Err-clause-runs : goal.returns-in-Err-clause-runs
returns-in-Err-clause-runs g c =
    rw c.in-Err.ensures.kind
    (unread c.args.command c.taken-at.result _ _ _ _ _ c.loop-is_end.invariant.ran
    c.taken-at.ensures.taken)

pub returns-then-is_end-clause-runs : goal.returns-then-is_end-clause-runs
returns-then-is_end-clause-runs g c input was =
    ended c.args.command _ _ _ _ _ c.loop-is_end.invariant.ran
    (λ xs known. (c.in-Ok.ensures.end xs known (c.loop-is_end.invariant.saw input was xs known)).0
    c.if-is_end.true) input was

pub returns-in-Err-convert-clause-runs : goal.returns-in-Err-convert-clause-runs
returns-in-Err-convert-clause-runs g c input was =
    stopped c.args.command c.taken-at.result c.in-Err-convert.kind _ _ _ _ _ _ _
    c.loop-is_end.invariant.ran c.taken-at.ensures.taken c.in-Ok.ensures.shows
    (λ xs known none. not_true c.in-Ok.is_end c.if-is_end.false
    ((c.in-Ok.ensures.end xs known (c.loop-is_end.invariant.saw input was xs known)).1 none))
    c.in-Err-convert.ensures.fails input was

pub returns-then-is_end-clause-ended : goal.returns-then-is_end-clause-ended
returns-then-is_end-clause-ended g c input was =
    nothing_left c.args.command _ _ _ _ _ c.loop-is_end.invariant.ran c.in-Ok.ensures.shows
    (λ xs known. (c.in-Ok.ensures.end xs known (c.loop-is_end.invariant.saw input was xs known)).0
    c.if-is_end.true) input was

pub returns-in-Err-clause-leaves : goal.returns-in-Err-clause-leaves
returns-in-Err-clause-leaves g c =
    ran_leaves c.args.command _ _ _ _ _ c.loop-is_end.invariant.ran
    (breaks_leaves _ _ c.in-Err.ensures.breaks)

pub returns-then-is_end-clause-leaves : goal.returns-then-is_end-clause-leaves
returns-then-is_end-clause-leaves g c =
    ran_leaves c.args.command _ _ _ _ _ c.loop-is_end.invariant.ran
    (shows_leaves _ _ _ c.in-Ok.ensures.shows)

pub returns-in-Err-convert-clause-leaves : goal.returns-in-Err-convert-clause-leaves
returns-in-Err-convert-clause-leaves g c =
    ran_leaves c.args.command _ _ _ _ _ c.loop-is_end.invariant.ran
    (shown_leaves _ _ _ _ c.in-Ok.ensures.shows c.convert.ensures.leaves)
