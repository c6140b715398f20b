use Rattle.std.proofs.Common.{Err}
use Rattle.std.proofs.lemmas.Result.{err_from_is_err_and}
use Rattle.cbor4ii_items.specs.Strings.{text_content, definite_string}
use Rattle.cbor4ii_items.specs.Laws.Written.{writes_then, writes_err}
use Rattle.cbor4ii_examples.proofs.station.StationEncode.encode.Goals as goal

pub returns-in_err-encode : goal.returns-in_err-encode
returns-in_err-encode g c =
    let r = c.from_residual-in_err-encode in
    let p = err_from_is_err_and r.result r.ensures.1 in
    let name = definite_string 3 (text_content c.args.self.now.name) in
    rw (p.1, p.2) (writes_then (Err _) c.in_ok-bounded.ensures.writes
    (writes_err name c.in_err-encode.ensures.writes))

pub returns : goal.returns
returns g c =
    writes_then c.encode-2.result c.in_ok-bounded.ensures.writes
    (writes_then c.encode-2.result c.in_ok-encode.ensures.writes c.encode-2.ensures)
