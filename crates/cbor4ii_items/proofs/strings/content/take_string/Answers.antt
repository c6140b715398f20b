use Rattle.cbor4ii_items.proofs.IndefiniteStrings.{string_known, string_chunks}
use Rattle.std.proofs.lemmas.Result.{err_from_is_err_and}
use Rattle.cbor4ii_items.specs.ReadStrings.{string_by}
use Rattle.cbor4ii_items.specs.Laws.Running.{runs_err}
use Rattle.cbor4ii_items.proofs.strings.content.take_string.Goals as goal

pub returns-in-Some-clause-runs : goal.returns-in-Some-clause-runs
returns-in-Some-clause-runs g c =
    string_known _ _ c.in_ok-count.ensures.runs c.in-Some.is c.take_known.ensures

pub returns-in-None-clause-runs : goal.returns-in-None-clause-runs
returns-in-None-clause-runs g c =
    string_chunks _ _ c.in_ok-count.ensures.runs c.in-None.is c.take_chunks.ensures

pub returns-in_err-count-clause-runs : goal.returns-in_err-count-clause-runs
returns-in_err-count-clause-runs g c =
    let p = err_from_is_err_and c.from_residual.result c.from_residual.ensures.1 in
    rw (p.1, p.2) (runs_err (string_by c.args.name.now c.args.major
    (g.S.Source.view c.args.reader.now).budget) c.in_err-count.ensures.runs)
