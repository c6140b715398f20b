use Rattle.std.proofs.Common.{◌≡◌, length, ◌∙◌, arith}
use Rattle.std.proofs.lemmas.Result.{err_from_is_err_and}
use Rattle.cbor4ii_items.specs.SequenceBytes.{pair_bytes}
use Rattle.cbor4ii_items.specs.Laws.SequenceBytes.{items_then, items_err, items_all}
use Rattle.cbor4ii_items.proofs.sequences.encode.push_pairs.Goals as goal

pub returns-in_err-push_pair : goal.returns-in_err-push_pair
returns-in_err-push_pair g c =
    let p = err_from_is_err_and c.from_residual.result c.from_residual.ensures.1 in
    rw (p.1, p.2) (items_err (pair_bytes g.K.Encode.bytes g.V.Encode.bytes) c.args.pairs.now
    c.loop-pair.pair-index c.pair-item.result c.loop-pair-test.true c.pair-item.is
    c.loop-pair.invariant.appends c.loop-pair.invariant.counts c.in_err-push_pair.ensures)

pub loop-pair-preserved : goal.loop-pair-preserved
loop-pair-preserved g c = record {
  appends =
      items_then (pair_bytes g.K.Encode.bytes g.V.Encode.bytes) c.args.pairs.now
      c.loop-pair.pair-index c.pair-item.result (g.W.Write.view c.args.writer.now).written
      (g.W.Write.view c.loop-pair.writer).written
      (g.W.Write.view c.push_pair.new.writer).written c.loop-pair-test.true c.pair-item.is
      c.loop-pair.invariant.appends c.in_ok-push_pair.ensures.appends;
  counts = c.in_ok-push_pair.ensures.counts ∙ c.loop-pair.invariant.counts;
}

pub returns : goal.returns
returns g c =
    let e : c.loop-pair.pair-index ≡ length c.args.pairs.now = omega arith in
    items_all (pair_bytes g.K.Encode.bytes g.V.Encode.bytes) c.args.pairs.now c.loop-pair.pair-index
    e c.loop-pair.invariant.appends c.loop-pair.invariant.counts
