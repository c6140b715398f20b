use Rattle.std.proofs.Common.{sym, ◌∙◌, arith, rules}
use Rattle.std.specs.Prelude.{pos, negsuc}
use Rattle.cbor4ii_items.proofs.Passed.{run_passed}
use Rattle.cbor4ii_items.specs.ReadNumber.{as_positive, as_negative}
use Rattle.cbor4ii_items.specs.Laws.Running.{runs_err, runs_with}
use Rattle.cbor4ii_items.proofs.SignedRuns.{runs_positive, runs_negative, positive_is, negative_is}
use Rattle.cbor4ii_items.proofs.numbers.signed.signed_by_bytes.Goals as goal

pub returns-in_err-argument-in-0-clause-runs : goal.returns-in_err-argument-in-0-clause-runs
returns-in_err-argument-in-0-clause-runs g c =
    run_passed _ c.from_residual-in_err-argument-in-0.ensures.1
    (runs_positive _ _ _ _ _ _ (sym c.if_major.ensures ∙ c.in-0.is) c.in_ok-first.ensures.runs
    (runs_err as_positive c.in_err-argument-in-0.ensures.runs))

pub returns-in_err-argument-in-1-clause-runs : goal.returns-in_err-argument-in-1-clause-runs
returns-in_err-argument-in-1-clause-runs g c =
    run_passed _ c.from_residual-in_err-argument-in-1.ensures.1
    (runs_negative _ _ _ _ _ _ (sym c.if_major.ensures ∙ c.in-1.is) c.in_ok-first.ensures.runs
    (runs_err as_negative c.in_err-argument-in-1.ensures.runs))

pub returns-in_ok-argument-in-0-clause-runs : goal.returns-in_ok-argument-in-0-clause-runs
returns-in_ok-argument-in-0-clause-runs g c =
    let e = positive_is c.positive.result c.in_ok-argument-in-0.argument
    (omega (arith, c.in_ok-argument-in-0.ensures.below, c.requires)) c.positive.ensures in
    runs_positive _ _ _ _ _ _ (sym c.if_major.ensures ∙ c.in-0.is) c.in_ok-first.ensures.runs
    (runs_with pos e c.in_ok-argument-in-0.ensures.runs)

pub returns-in_ok-argument-in-1-clause-runs : goal.returns-in_ok-argument-in-1-clause-runs
returns-in_ok-argument-in-1-clause-runs g c =
    let e = negative_is c.negative.result c.in_ok-argument-in-1.argument
    (omega (arith, c.in_ok-argument-in-1.ensures.below, c.requires)) c.negative.ensures in
    runs_negative _ _ _ _ _ _ (sym c.if_major.ensures ∙ c.in-1.is) c.in_ok-first.ensures.runs
    (runs_with negsuc e c.in_ok-argument-in-1.ensures.runs)

pub returns-in_ok-argument-in-0-clause-range : goal.returns-in_ok-argument-in-0-clause-range
returns-in_ok-argument-in-0-clause-range g c = search (rules, positive_is)

pub returns-in_ok-argument-in-1-clause-range : goal.returns-in_ok-argument-in-1-clause-range
returns-in_ok-argument-in-1-clause-range g c = search (rules, negative_is)
