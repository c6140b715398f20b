use Rattle.std.proofs.Common.{rules}
use Rattle.cbor4ii_ser.specs.Laws.Pieces.{wrote_one, wrote_one_err}
use Rattle.cbor4ii_ser.proofs.text.TextWriter.write_str.Goals as goal

pub returns-in-Ok-clause-wrote : goal.returns-in-Ok-clause-wrote
returns-in-Ok-clause-wrote g c = search (rules, wrote_one)

pub returns-in-Err-clause-wrote : goal.returns-in-Err-clause-wrote
returns-in-Err-clause-wrote g c =
    wrote_one_err c.args.piece.now (c.is_error.ensures.fine c.if-is_error.false)
    (rw c.as_bytes.ensures.value at c.in-Err.ensures.writes)
