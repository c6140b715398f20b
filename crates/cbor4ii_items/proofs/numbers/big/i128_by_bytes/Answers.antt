use Rattle.std.proofs.Common.{sym, ◌∙◌, arith}
use Rattle.std.specs.Prelude.{pos, negsuc}
use Rattle.cbor4ii_items.proofs.Passed.{run_passed}
use Rattle.cbor4ii_items.specs.ReadNumber.{as_positive, as_negative, signed_bignum_at}
use Rattle.cbor4ii_items.specs.Laws.Running.{runs_err, runs_then, runs_with}
use Rattle.cbor4ii_items.proofs.BigRuns.{runs_i128_positive, runs_i128_negative, runs_i128_tag}
use Rattle.cbor4ii_items.proofs.BigRuns.{positive_is, negative_is, small_argument}
use Rattle.cbor4ii_items.proofs.numbers.big.i128_by_bytes.Goals as goal

pub returns-in_err-argument-clause-runs : goal.returns-in_err-argument-clause-runs
returns-in_err-argument-clause-runs g c =
    run_passed _ c.from_residual-in_err-argument.ensures.1 (runs_i128_positive _ (sym
    c.if_major-major.ensures ∙ c.if-major-eq-UNSIGNED.true) c.in_ok-peek.ensures.runs (runs_err
    as_positive c.in_err-argument.ensures.runs))

pub returns-then-major-eq-UNSIGNED-clause-runs : goal.returns-then-major-eq-UNSIGNED-clause-runs
returns-then-major-eq-UNSIGNED-clause-runs g c =
    let e = positive_is c.positive.result c.in_ok-argument.argument
    (small_argument _ (c.in_ok-argument.ensures.fits (omega arith))) c.positive.ensures in
    runs_i128_positive _ (sym c.if_major-major.ensures ∙ c.if-major-eq-UNSIGNED.true)
    c.in_ok-peek.ensures.runs (runs_with pos e c.in_ok-argument.ensures.runs)

pub returns-in_err-argument-2-clause-runs : goal.returns-in_err-argument-2-clause-runs
returns-in_err-argument-2-clause-runs g c =
    run_passed _ c.from_residual-in_err-argument-2.ensures.1 (runs_i128_negative _ (sym
    c.if_major-major.ensures ∙ c.if-major-eq-NEGATIVE.true) c.in_ok-peek.ensures.runs (runs_err
    as_negative c.in_err-argument-2.ensures.runs))

pub returns-then-major-eq-NEGATIVE-clause-runs : goal.returns-then-major-eq-NEGATIVE-clause-runs
returns-then-major-eq-NEGATIVE-clause-runs g c =
    let e = negative_is c.negative.result c.in_ok-argument-2.argument
    (small_argument _ (c.in_ok-argument-2.ensures.fits (omega arith))) c.negative.ensures in
    runs_i128_negative _ (sym c.if_major-major.ensures ∙ c.if-major-eq-NEGATIVE.true)
    c.in_ok-peek.ensures.runs (runs_with negsuc e c.in_ok-argument-2.ensures.runs)

pub returns-in_err-tag-clause-runs : goal.returns-in_err-tag-clause-runs
returns-in_err-tag-clause-runs g c =
    run_passed _ c.from_residual-in_err-tag.ensures.1 (runs_i128_tag _ (λ e.
    c.if-major-eq-UNSIGNED.false (c.if_major-major.ensures ∙ e)) (λ e. c.if-major-eq-NEGATIVE.false
    (c.if_major-major.ensures ∙ e)) c.in_ok-peek.ensures.runs (runs_err signed_bignum_at
    c.in_err-tag.ensures.runs))

pub returns-clause-runs : goal.returns-clause-runs
returns-clause-runs g c =
    runs_i128_tag _ (λ e. c.if-major-eq-UNSIGNED.false (c.if_major-major.ensures ∙ e))
    (λ e. c.if-major-eq-NEGATIVE.false (c.if_major-major.ensures ∙ e)) c.in_ok-peek.ensures.runs
    (runs_then signed_bignum_at c.in_ok-tag.ensures.runs c.signed_bignum.ensures.runs)
