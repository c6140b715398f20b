use Rattle.std.proofs.lemmas.Result.{err_from_is_err_and}
use Rattle.cbor4ii_items.specs.Laws.Written.{writes_then, writes_err}
use Rattle.cbor4ii_ser.proofs.held.Held.release.Goals as goal

pub returns : goal.returns
returns g c = writes_then c.put_run.result c.in_ok-begin.ensures c.put_run.ensures

pub returns-in_err-begin : goal.returns-in_err-begin
returns-in_err-begin g c =
    let p = err_from_is_err_and c.from_residual.result c.from_residual.ensures.1 in
    rw (p.1, p.2) (writes_err _ c.in_err-begin.ensures)
