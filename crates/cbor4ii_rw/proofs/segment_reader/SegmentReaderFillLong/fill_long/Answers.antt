use Rattle.std.proofs.Common.{rules}
use Rattle.cbor4ii_rw.proofs.SegmentLemmas.{shows_current}
use Rattle.cbor4ii_rw.proofs.segment_reader.SegmentReaderFillLong.fill_long.Goals as goal

pub returns-clause-fills : goal.returns-clause-fills
returns-clause-fills c =
    let e = c.pass_empty.ensures in
    (shows_current c.args.self.now c.pass_empty.new.self e.end e.bytes e.segment e.count e.steps
    c.args.want c.min-long.result c.min-long.ensures).fills

pub returns-clause-bounded : goal.returns-clause-bounded
returns-clause-bounded c = search (rules, shows_current)

pub returns-clause-segment : goal.returns-clause-segment
returns-clause-segment c = search (rules, shows_current)
