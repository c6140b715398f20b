use Rattle.std.proofs.Common.{◌+◌, ◌-◌, ◌*◌, ◌<◌, ◌^◌, arith}
use Rattle.cbor4ii_items.proofs.Passed.{run_passed}
use Rattle.cbor4ii_items.specs.ReadHead.{number_on}
use Rattle.cbor4ii_items.specs.Laws.Running.{runs_err, reaches_as, reaches_then, reaches_end}
use Rattle.cbor4ii_items.specs.Laws.ReadingHeads.{one_more_byte, small_number, number_more}
use Rattle.cbor4ii_items.specs.Laws.ReadingHeads.{number_start}
use Rattle.cbor4ii_items.proofs.head.number.Goals as goal

pub loop-i-init : goal.loop-i-init
loop-i-init g c = record { read = number_start _ _ _; small = omega arith }

pub returns-in_err-byte-clause-runs : goal.returns-in_err-byte-clause-runs
returns-in_err-byte-clause-runs g c =
    run_passed _ c.from_residual.ensures.1 (reaches_end c.loop-i.invariant.read (rw (number_more
    c.args.name.now c.args.bytes c.args.bytes c.loop-i.i c.loop-i.value c.loop-i-test.true)
    (runs_err _ c.in_err-byte.ensures.runs)))

pub overflow_mul-value : goal.overflow_mul-value
overflow_mul-value g c =
    let more = one_more_byte c.loop-i.value 0 c.loop-i.i c.loop-i.invariant.small (omega arith) in
    let h : c.loop-i.value * 256 + 0 < 2 ^ 128 =
    small_number _ (c.loop-i.i + 1) more (omega arith) in
    omega (arith, h)

pub overflow_add-value : goal.overflow_add-value
overflow_add-value g c =
    let more = one_more_byte c.loop-i.value c.in_ok-byte.byte c.loop-i.i c.loop-i.invariant.small
    c.in_ok-byte.ensures.byte in
    let h : c.loop-i.value * 256 + c.in_ok-byte.byte < 2 ^ 128 =
    small_number _ (c.loop-i.i + 1) more (omega arith) in
    omega (arith, h)

pub loop-i-preserved : goal.loop-i-preserved
loop-i-preserved g c = record {
  read =
      reaches_then (λ b. number_on c.args.name.now c.args.bytes (c.args.bytes - (c.loop-i.i + 1))
      (c.loop-i.value * 256 + b))
      (reaches_as (number_more _ _ _ _ _ c.loop-i-test.true) c.loop-i.invariant.read)
      c.in_ok-byte.ensures.runs;
  small = one_more_byte _ _ _ c.loop-i.invariant.small c.in_ok-byte.ensures.byte;
}
