use Rattle.std.proofs.Common.{◌<◌, ◌^◌, arith}
use Rattle.cbor4ii_items.proofs.Passed.{run_passed}
use Rattle.cbor4ii_items.specs.ReadHead.{number_on}
use Rattle.cbor4ii_items.specs.Laws.Running.{runs_then}
use Rattle.cbor4ii_items.specs.Laws.ReadingHeads.{wider}
use Rattle.cbor4ii_items.proofs.floats.float_by_bytes.Goals as goal

pub returns-in_err-number-clause-runs : goal.returns-in_err-number-clause-runs
returns-in_err-number-clause-runs g c =
    run_passed _ c.from_residual-in_err-number.ensures.1 (runs_then (λ b. number_on c.args.name.now
    c.args.bytes c.args.bytes 0) c.in_ok-marked.ensures.runs c.in_err-number.ensures.runs)

pub overflow_cast-result : goal.overflow_cast-result
overflow_cast-result g c =
    let h : c.in_ok-number.field-0 < 256 ^ 8 = wider _ _ 8 c.requires c.in_ok-number.ensures.fits in
    omega (arith, h)

pub returns-clause-runs : goal.returns-clause-runs
returns-clause-runs g c =
    runs_then (λ b. number_on c.args.name.now c.args.bytes c.args.bytes 0)
    c.in_ok-marked.ensures.runs c.in_ok-number.ensures.runs
