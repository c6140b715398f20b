use Rattle.cbor4ii_items.proofs.IndefiniteStrings.{definite_runs}
use Rattle.std.proofs.lemmas.Result.{err_from_is_err_and}
use Rattle.cbor4ii_items.specs.ReadStrings.{chunk_by}
use Rattle.cbor4ii_items.specs.Laws.Running.{runs_err}
use Rattle.cbor4ii_items.proofs.strings.chunks.take_chunk_inside.Goals as goal

pub returns-in-Some-clause-runs : goal.returns-in-Some-clause-runs
returns-in-Some-clause-runs g c =
    definite_runs _ _ _ c.in-Some.is c.in_ok-count.ensures.runs c.take_content.ensures

pub returns-in_err-count-clause-runs : goal.returns-in_err-count-clause-runs
returns-in_err-count-clause-runs g c =
    let p = err_from_is_err_and c.from_residual.result c.from_residual.ensures.1 in
    rw (p.1, p.2)
    (runs_err (chunk_by c.args.name.now c.args.content.now.items) c.in_err-count.ensures.runs)
