use Rattle.cbor4ii_items.proofs.Passed.{run_passed}
use Rattle.cbor4ii_items.specs.Laws.ReadingHeads.{runs_length, runs_length_err}
use Rattle.cbor4ii_items.proofs.head.length_by_bytes.Goals as goal

pub returns-in_err-argument-clause-runs : goal.returns-in_err-argument-clause-runs
returns-in_err-argument-clause-runs g c =
    run_passed _ c.from_residual-in_err-argument.ensures.1 (runs_length_err _ _ _
    c.if-first-major.false c.if-first-major-2.false c.in_ok-first.ensures.runs
    c.in_err-argument.ensures.runs)

pub returns-clause-runs : goal.returns-clause-runs
returns-clause-runs g c =
    runs_length _ _ _ _ c.if-first-major.false c.if-first-major-2.false c.in_ok-first.ensures.runs
    c.in_ok-argument.ensures.runs
