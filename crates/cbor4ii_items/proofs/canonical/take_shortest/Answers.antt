use Rattle.std.proofs.Common.{refl, ◌∙◌, sym}
use Rattle.cbor4ii_items.proofs.Passed.{run_passed}
use Rattle.cbor4ii_items.proofs.Shortest.{runs_opening, runs_head_err, runs_shortest, runs_too_long}
use Rattle.cbor4ii_items.proofs.canonical.take_shortest.Goals as goal

pub returns-then-is_indefinite-clause-runs : goal.returns-then-is_indefinite-clause-runs
returns-then-is_indefinite-clause-runs g c =
    runs_opening c.args.name.now c.args.major c.in_ok-first.first c.in_ok-first.ensures.runs
    c.in_ok-first.ensures.byte c.advance.ensures
    (sym c.is_indefinite.ensures ∙ c.if-is_indefinite.true)
    refl refl refl

pub returns-in_err-argument-clause-runs : goal.returns-in_err-argument-clause-runs
returns-in_err-argument-clause-runs g c =
    run_passed _ c.from_residual-in_err-argument.ensures.1
    (runs_head_err c.args.name.now c.args.major c.in_ok-first.first c.in_ok-first.ensures.runs
    (sym c.is_indefinite.ensures ∙ c.if-is_indefinite.false) c.in_err-argument.ensures.runs)

pub returns-then-first-shortest_info-clause-runs : goal.returns-then-first-shortest_info-clause-runs
returns-then-first-shortest_info-clause-runs g c =
    runs_too_long c.args.name.now c.args.major c.in_ok-first.first c.in_ok-first.ensures.runs
    (sym c.is_indefinite.ensures ∙ c.if-is_indefinite.false) c.in_ok-argument.ensures.runs
    (λ e. c.if-first-shortest_info.true (e ∙ sym c.shortest_info.ensures)) refl refl refl

pub returns-clause-runs : goal.returns-clause-runs
returns-clause-runs g c =
    runs_shortest c.args.name.now c.args.major c.in_ok-first.first c.in_ok-first.ensures.runs
    (sym c.is_indefinite.ensures ∙ c.if-is_indefinite.false) c.in_ok-argument.ensures.runs
    (c.if-first-shortest_info.false ∙ c.shortest_info.ensures)
