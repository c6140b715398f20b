use Rattle.std.proofs.Common.{sym, ◌∙◌, rules}
use Rattle.cbor4ii_items.proofs.Passed.{run_passed}
use Rattle.cbor4ii_items.specs.ReadNumber.{unsigned_bignum_at}
use Rattle.cbor4ii_items.specs.Laws.Running.{runs_err, runs_then}
use Rattle.cbor4ii_items.proofs.BigRuns.{runs_u128_unsigned, runs_u128_tag}
use Rattle.cbor4ii_items.proofs.numbers.big.u128_by_bytes.Goals as goal

pub returns-in_err-argument-clause-runs : goal.returns-in_err-argument-clause-runs
returns-in_err-argument-clause-runs g c = search (rules, run_passed, runs_u128_unsigned)

pub returns-then-if_major-eq-UNSIGNED-clause-runs :
    goal.returns-then-if_major-eq-UNSIGNED-clause-runs
returns-then-if_major-eq-UNSIGNED-clause-runs g c =
    runs_u128_unsigned _ (sym c.if_major.ensures ∙ c.if-if_major-eq-UNSIGNED.true)
    c.in_ok-peek.ensures.runs c.in_ok-argument.ensures.runs

pub returns-in_err-tag-clause-runs : goal.returns-in_err-tag-clause-runs
returns-in_err-tag-clause-runs g c =
    run_passed _ c.from_residual-in_err-tag.ensures.1 (runs_u128_tag _ (λ e.
    c.if-if_major-eq-UNSIGNED.false (c.if_major.ensures ∙ e)) c.in_ok-peek.ensures.runs (runs_err
    unsigned_bignum_at c.in_err-tag.ensures.runs))

pub returns-clause-runs : goal.returns-clause-runs
returns-clause-runs g c =
    runs_u128_tag _ (λ e. c.if-if_major-eq-UNSIGNED.false (c.if_major.ensures ∙ e))
    c.in_ok-peek.ensures.runs
    (runs_then unsigned_bignum_at c.in_ok-tag.ensures.runs c.unsigned_bignum.ensures.runs)
