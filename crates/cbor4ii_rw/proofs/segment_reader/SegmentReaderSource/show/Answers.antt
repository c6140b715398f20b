use Rattle.std.proofs.Common.{refl}
use Rattle.cbor4ii_rw.proofs.SegmentLemmas.{shows_current}
use Rattle.cbor4ii_rw.proofs.segment_reader.SegmentReaderSource.show.Goals as goal

pub returns : goal.returns
returns c =
    let e = c.pass_empty.ensures in
    let s = shows_current c.args.self.now c.pass_empty.new.self e.end e.bytes e.segment e.count
    e.steps c.args.want c.min-shown.result c.min-shown.ensures in (
      (refl, λ _. tt, s.fills.shows),
      record {
        prefix = s.fills.prefix;
        bounded = s.within;
        enough = s.fills.enough;
        segment = s.size;
        after_borrow = tt;
      },
    )
