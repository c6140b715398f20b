use Rattle.std.proofs.Common.{◌≡◌, length, ap, ◌∙◌, arith, take}
use Rattle.std.proofs.Math.Seq.{take-length}
use Rattle.cbor4ii_ser.specs.Item.{each_encoding}
use Rattle.cbor4ii_ser.specs.Laws.Joining.{serializes_then, serializes_out, serializes_as}
use Rattle.cbor4ii_ser.specs.Laws.Joining.{serializes_nil, items_more, items_after}
use Rattle.cbor4ii_ser.proofs.sequences.put_items.Goals as goal

pub loop-item-init : goal.loop-item-init
loop-item-init g c = serializes_nil _

pub returns-in_err-serialize : goal.returns-in_err-serialize
returns-in_err-serialize g c =
    serializes_as _ (items_after g.T.Serialize.encoding c.args.items.now c.loop-item.item-index
    c.item-item.result c.loop-item-test.true c.item-item.is)
    (serializes_out _ c.from_residual.ensures.1
    (serializes_then _ _ _ c.loop-item.invariant c.in_err-serialize.ensures))

pub loop-item-preserved : goal.loop-item-preserved
loop-item-preserved g c =
    serializes_as _ (items_more g.T.Serialize.encoding c.args.items.now c.loop-item.item-index
    c.item-item.result c.loop-item-test.true c.item-item.is)
    (serializes_then _ _ _ c.loop-item.invariant c.in_ok-serialize.ensures)

pub returns : goal.returns
returns g c =
    let e : c.loop-item.item-index ≡ length c.args.items.now = omega arith in
    serializes_as _ (ap (each_encoding g.T.Serialize.encoding) (ap (λ j. take j c.args.items.now) e
    ∙ take-length c.args.items.now)) c.loop-item.invariant
