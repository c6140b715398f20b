use Rattle.std.proofs.Common.{[]}
use Rattle.cbor4ii_items.proofs.WholeHeads.{found_some, found_none, runs_stayed, progress_stayed}
use Rattle.cbor4ii_items.proofs.WholeHeads.{runs_broke, runs_definite}
use Rattle.cbor4ii_items.proofs.head.length.Goals as goal

pub returns-in-Ok-Some-clause-runs : goal.returns-in-Ok-Some-clause-runs
returns-in-Ok-Some-clause-runs g c =
    runs_definite _ _ c.requires
    (found_some _ _ c.in-Ok-Some.field-0-is (c.in-Ok-Some.ensures.runs c.args.name.now))

pub returns-in-Ok-None-clause-runs : goal.returns-in-Ok-None-clause-runs
returns-in-Ok-None-clause-runs g c =
    runs_stayed (found_none _ _ _ c.in-Ok-None.field-0-is (c.in-Ok-None.ensures.runs []))
    c.length_by_bytes.ensures.runs

pub returns-in-Ok-None-clause-progress : goal.returns-in-Ok-None-clause-progress
returns-in-Ok-None-clause-progress g c =
    progress_stayed _ _ (found_none _ _ _ c.in-Ok-None.field-0-is (c.in-Ok-None.ensures.runs []))
    c.length_by_bytes.ensures.progress

pub returns-in-Err-clause-runs : goal.returns-in-Err-clause-runs
returns-in-Err-clause-runs g c = runs_broke (c.in-Err.ensures.runs [])
