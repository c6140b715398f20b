use Rattle.std.proofs.Common.{[], arith}
use Rattle.cbor4ii_items.proofs.WholeHeads.{found_some, found_none, runs_stayed, progress_stayed}
use Rattle.cbor4ii_items.proofs.WholeHeads.{runs_broke}
use Rattle.cbor4ii_items.proofs.SignedRuns.{plus_read, plus_rejected, positive_is}
use Rattle.cbor4ii_items.proofs.numbers.signed.signed.Goals as goal

pub returns-then-argument-limit-clause-runs : goal.returns-then-argument-limit-clause-runs
returns-then-argument-limit-clause-runs g c =
    plus_rejected _ _ _ _ _ c.if-argument-limit.true
    (found_some _ _ c.in-Ok-Some.field-0-is (c.in-Ok-Some.ensures.runs c.args.plus.now))

pub returns-else-argument-limit-clause-runs : goal.returns-else-argument-limit-clause-runs
returns-else-argument-limit-clause-runs g c =
    let e = positive_is c.positive.result c.in-Ok-Some.argument
    (omega (arith, c.if-argument-limit.false, c.requires)) c.positive.ensures in
    plus_read c.args.name.now c.args.plus _ _ _ e c.if-argument-limit.false
    (found_some _ _ c.in-Ok-Some.field-0-is (c.in-Ok-Some.ensures.runs c.args.plus.now))

pub returns-in-Ok-None-clause-runs : goal.returns-in-Ok-None-clause-runs
returns-in-Ok-None-clause-runs g c =
    runs_stayed (found_none _ _ _ c.in-Ok-None.field-0-is (c.in-Ok-None.ensures.runs []))
    c.signed_below_zero.ensures.runs

pub returns-in-Ok-None-clause-progress : goal.returns-in-Ok-None-clause-progress
returns-in-Ok-None-clause-progress g c =
    progress_stayed _ _ (found_none _ _ _ c.in-Ok-None.field-0-is (c.in-Ok-None.ensures.runs []))
    c.signed_below_zero.ensures.progress

pub returns-in-Err-clause-runs : goal.returns-in-Err-clause-runs
returns-in-Err-clause-runs g c = runs_broke (c.in-Err.ensures.runs [])
