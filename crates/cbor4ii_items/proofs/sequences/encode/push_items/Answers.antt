use Rattle.std.proofs.Common.{◌≡◌, length, ◌∙◌, arith}
use Rattle.std.proofs.lemmas.Result.{err_from_is_err_and}
use Rattle.cbor4ii_items.specs.Laws.SequenceBytes.{items_then, items_err, items_all}
use Rattle.cbor4ii_items.proofs.sequences.encode.push_items.Goals as goal

pub returns-in_err-encode : goal.returns-in_err-encode
returns-in_err-encode g c =
    let p = err_from_is_err_and c.from_residual.result c.from_residual.ensures.1 in
    rw (p.1, p.2) (items_err g.T.Encode.bytes c.args.items.now c.loop-item.item-index
    c.item-item.result c.loop-item-test.true c.item-item.is c.loop-item.invariant.appends
    c.loop-item.invariant.counts c.in_err-encode.ensures)

pub loop-item-preserved : goal.loop-item-preserved
loop-item-preserved g c = record {
  appends =
      items_then g.T.Encode.bytes c.args.items.now c.loop-item.item-index c.item-item.result
      (g.W.Write.view c.args.writer.now).written (g.W.Write.view c.loop-item.writer).written
      (g.W.Write.view c.encode.new.writer).written c.loop-item-test.true c.item-item.is
      c.loop-item.invariant.appends c.in_ok-encode.ensures.appends;
  counts = c.in_ok-encode.ensures.counts ∙ c.loop-item.invariant.counts;
}

pub returns : goal.returns
returns g c =
    let e : c.loop-item.item-index ≡ length c.args.items.now = omega arith in
    items_all g.T.Encode.bytes c.args.items.now c.loop-item.item-index e
    c.loop-item.invariant.appends c.loop-item.invariant.counts
