use Rattle.std.proofs.Common.{Ok}
use Rattle.cbor4ii_items.specs.Laws.Written.{writes_then}
use Rattle.cbor4ii_examples.proofs.ByHand.{only_these}
use Rattle.cbor4ii_examples.proofs.by_hand.write_record.Goals as goal

pub returns : goal.returns
returns c =
    let last = c.in_ok-encode-4.ensures in
    let all = writes_then (Ok tt) c.in_ok-bounded.ensures.writes
    (writes_then (Ok tt) c.in_ok-encode.ensures (writes_then (Ok tt) c.in_ok-encode-2.ensures.writes
    (writes_then (Ok tt) c.in_ok-encode-3.ensures last))) in
    only_these all.appends c.new-writer.ensures.written c.new.ensures.items
    c.into_inner.ensures.written
