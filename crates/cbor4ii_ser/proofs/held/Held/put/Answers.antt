use Rattle.std.proofs.Common.{rules}
use Rattle.cbor4ii_ser.specs.Pieces.{piece_fits_after}
use Rattle.std.proofs.lemmas.Bool.{lt-leb}
use Rattle.std.proofs.lemmas.Result.{err_from_is_err_and}
use Rattle.std.proofs.Common.{arith, sym, ◌≡◌, false}
use Rattle.std.proofs.lemmas.List.{length-take}
use Rattle.cbor4ii_items.specs.Laws.Written.{writes_then, writes_as, writes_err}
use Rattle.cbor4ii_ser.specs.HeldRun.{pending_of}
use Rattle.cbor4ii_ser.proofs.Cutting.{piece_bytes_long}
use Rattle.cbor4ii_ser.proofs.held.Held.put.Goals as goal

pub returns-else-piece-le255-clause-writes : goal.returns-else-piece-le255-clause-writes
returns-else-piece-le255-clause-writes g c =
    writes_as _ (sym (piece_bytes_long (pending_of c.args.self.now) c.args.piece.now
    (omega (arith, length-take c.args.self.now.size c.args.self.now.bytes)) (omega arith)))
    (writes_then c.encode.result c.in_ok-release.ensures
    (record {
      appends = c.encode.ensures.appends;
      counts = c.encode.ensures.counts;
      failed = c.encode.ensures.failed;
      prefix = c.encode.ensures.prefix;
    }))

pub returns-in_err-release-clause-writes : goal.returns-in_err-release-clause-writes
returns-in_err-release-clause-writes g c =
    let p = err_from_is_err_and c.from_residual.result c.from_residual.ensures.1 in
    let h : piece_fits_after (pending_of c.args.self.now) c.args.piece.now ≡ false =
    search (rules, lt-leb, length-take) in
    rw (p.1, p.2) (rw h (writes_err _ c.in_err-release.ensures))
