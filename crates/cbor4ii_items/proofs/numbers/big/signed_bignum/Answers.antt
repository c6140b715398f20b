use Rattle.std.proofs.lemmas.Result.{err_from_is_err_and}
use Rattle.cbor4ii_items.specs.ReadNumber.{as_positive, as_negative}
use Rattle.cbor4ii_items.specs.Laws.Running.{runs_err}
use Rattle.cbor4ii_items.proofs.numbers.big.signed_bignum.Goals as goal

pub returns-in_err-number-clause-runs : goal.returns-in_err-number-clause-runs
returns-in_err-number-clause-runs g c =
    let p = err_from_is_err_and c.from_residual.result c.from_residual.ensures.1 in
    rw (p.1, p.2, c.if-tag-eq-POSITIVE_BIGNUM.true)
    (runs_err as_positive c.in_err-number.ensures.runs)

pub returns-in_err-number-2-clause-runs : goal.returns-in_err-number-2-clause-runs
returns-in_err-number-2-clause-runs g c =
    let p = err_from_is_err_and c.from_residual-in_err-number-2.result
    c.from_residual-in_err-number-2.ensures.1 in
    rw (p.1, p.2, c.if-tag-eq-NEGATIVE_BIGNUM.true)
    (runs_err as_negative c.in_err-number-2.ensures.runs)
