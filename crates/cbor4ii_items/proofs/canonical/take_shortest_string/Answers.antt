use Rattle.std.proofs.lemmas.Result.{err_from_is_err_and}
use Rattle.std.proofs.Common.{[]}
use Rattle.cbor4ii_items.specs.ReadStrings.{content_on}
use Rattle.cbor4ii_items.specs.Laws.Running.{runs_err, runs_then}
use Rattle.cbor4ii_items.proofs.canonical.take_shortest_string.Goals as goal

pub returns-clause-runs : goal.returns-clause-runs
returns-clause-runs g c =
    runs_then (λ n. content_on c.args.name.now n []) c.in_ok-count.ensures.runs c.take_known.ensures

pub returns-in_err-count-clause-runs : goal.returns-in_err-count-clause-runs
returns-in_err-count-clause-runs g c =
    let p = err_from_is_err_and c.from_residual.result c.from_residual.ensures.1 in
    rw (p.1, p.2) (runs_err (λ n. content_on c.args.name.now n []) c.in_err-count.ensures.runs)
