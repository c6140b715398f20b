use Rattle.cbor4ii_items.specs.Laws.Written.{writes_then}
use Rattle.cbor4ii_items.proofs.Passed.{writes_passed}
use Rattle.cbor4ii_items.proofs.sequences.encode.push_pair.Goals as goal

pub returns : goal.returns
returns g c = writes_then c.encode-2.result c.in_ok-encode.ensures c.encode-2.ensures

pub returns-in_err-encode : goal.returns-in_err-encode
returns-in_err-encode g c =
    writes_passed _ _ c.from_residual.ensures.1 c.in_err-encode.ensures
