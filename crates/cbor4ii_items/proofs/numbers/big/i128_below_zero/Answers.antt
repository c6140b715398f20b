use Rattle.std.proofs.Common.{[], arith}
use Rattle.std.specs.Prelude.{codes}
use Rattle.cbor4ii_items.proofs.WholeHeads.{found_some, found_none, runs_stayed, progress_stayed}
use Rattle.cbor4ii_items.proofs.WholeHeads.{runs_broke}
use Rattle.cbor4ii_items.proofs.BigRuns.{negative_is, small_argument, minus_whole}
use Rattle.cbor4ii_items.proofs.numbers.big.i128_below_zero.Goals as goal

pub returns-in-Ok-Some-clause-runs : goal.returns-in-Ok-Some-clause-runs
returns-in-Ok-Some-clause-runs g c =
    let small = rw c.in-Ok-Some.field-0-is at (c.in-Ok-Some.ensures.fits (omega arith)) in
    let e = negative_is c.negative.result c.in-Ok-Some.argument (small_argument _ small)
    c.negative.ensures in
    minus_whole e
    (found_some _ _ c.in-Ok-Some.field-0-is (c.in-Ok-Some.ensures.runs (codes "i128")))

pub returns-in-Ok-None-clause-runs : goal.returns-in-Ok-None-clause-runs
returns-in-Ok-None-clause-runs g c =
    runs_stayed (found_none _ _ _ c.in-Ok-None.field-0-is (c.in-Ok-None.ensures.runs []))
    c.i128_by_bytes.ensures.runs

pub returns-in-Ok-None-clause-progress : goal.returns-in-Ok-None-clause-progress
returns-in-Ok-None-clause-progress g c =
    progress_stayed _ _ (found_none _ _ _ c.in-Ok-None.field-0-is (c.in-Ok-None.ensures.runs []))
    c.i128_by_bytes.ensures.progress

pub returns-in-Err-clause-runs : goal.returns-in-Err-clause-runs
returns-in-Err-clause-runs g c = runs_broke (c.in-Err.ensures.runs [])
