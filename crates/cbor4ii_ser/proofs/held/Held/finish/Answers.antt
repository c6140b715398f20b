use Rattle.std.proofs.lemmas.Result.{err_from_is_err_and}
use Rattle.cbor4ii_items.specs.Laws.Written.{writes_then, writes_err}
use Rattle.cbor4ii_ser.proofs.held.Held.finish.Goals as goal

pub returns-in_err-put_run : goal.returns-in_err-put_run
returns-in_err-put_run g c =
    let p = err_from_is_err_and c.from_residual.result c.from_residual.ensures.1 in
    rw (c.if-self.true, p.1, p.2) (writes_err _ c.in_err-put_run.ensures)

pub returns-in_ok-put_run : goal.returns-in_ok-put_run
returns-in_ok-put_run g c =
    rw c.if-self.true (writes_then c.end.result c.in_ok-put_run.ensures c.end.ensures.writes)
