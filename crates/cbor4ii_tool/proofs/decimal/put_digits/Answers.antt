use Rattle.std.proofs.Common.{◌≡◌, ℕ, ◌+◌, ◌-◌, ◌/◌, ◌%◌, ◌^◌, ◌<◌, ◌≤◌, length, decimal, refl, ap}
use Rattle.std.proofs.Common.{◌∙◌, arith, append_assoc, length-append}
use Rattle.std.proofs.lemmas.Fmt.{decimal_digit, decimal_step, decimal_nonempty, length-decimal-le}
use Rattle.std.proofs.lemmas.List.{drop-set, length-set}
use Rattle.cbor4ii_tool.proofs.decimal.put_digits.Goals as goal

one_longer : (n : ℕ) → 10 ≤ n → n < 2 ^ 64 → length (decimal n) ≡ length (decimal (n / 10)) + 1
one_longer n long small = ap length (decimal_step n long small) ∙ length-append _ _

pub loop-left-init : goal.loop-left-init
loop-left-init c = record {
  room = length-decimal-le 20 c.args.number (omega arith) (omega arith) (omega arith);
  inside = omega arith;
  long = omega arith;
  put = refl;
  digits = refl;
}

pub overflow_sub-start : goal.overflow_sub-start
overflow_sub-start c = let fits =
    c.loop-left.auto.left-fits.fits in omega (arith, decimal_nonempty c.loop-left.left fits)

pub loop-left-preserved : goal.loop-left-preserved
loop-left-preserved c =
    let l = c.loop-left in
    let fits = l.auto.left-fits.fits in
    let step = one_longer l.left c.loop-left-test.true fits in
    let before : l.start - 1 + 1 ≡ l.start = omega (arith, decimal_nonempty l.left fits) in
    record {
      room = omega (arith, step);
      inside = omega arith;
      long = length-set l.line (l.start - 1) (48 + l.left % 10) ∙ l.invariant.long;
      put = omega (arith, step, before);
      digits = rw (drop-set l.line (l.start - 1) (48 + l.left % 10) (omega (arith, before)), before)
          (rw (decimal_step l.left c.loop-left-test.true fits, append_assoc) at l.invariant.digits);
    }

pub overflow_sub-start-2 : goal.overflow_sub-start-2
overflow_sub-start-2 c = let fits =
    c.loop-left.auto.left-fits.fits in omega (arith, decimal_nonempty c.loop-left.left fits)

pub returns-clause-start : goal.returns-clause-start
returns-clause-start c =
    omega (arith, ap length (decimal_digit c.loop-left.left c.loop-left-test.false))

pub returns-clause-digits : goal.returns-clause-digits
returns-clause-digits c =
    let l = c.loop-left in
    let fits = l.auto.left-fits.fits in
    let before : l.start - 1 + 1 ≡ l.start = omega (arith, decimal_nonempty l.left fits) in
    rw (drop-set l.line (l.start - 1) (48 + l.left) (omega (arith, before)), before)
    (rw (decimal_digit l.left c.loop-left-test.false) at l.invariant.digits)
