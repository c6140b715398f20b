use Rattle.std.proofs.Common.{◌≡◌, None, length, rules, refl, ap, ◌∙◌, arith, take}
use Rattle.std.proofs.Math.Seq.{take-length}
use Rattle.cbor4ii_ser.specs.Item.{each_encoding}
use Rattle.cbor4ii_ser.specs.Laws.Joining.{serializes_then, serializes_as}
use Rattle.cbor4ii_ser.specs.Laws.Joining.{serializes_nil, items_more, items_after}
use Rattle.cbor4ii_ser.proofs.Pushing.{pushes_out, pushes_on, pushes_as, pushes_done}
use Rattle.cbor4ii_ser.proofs.sequences.put_each_leaf.Goals as goal

pub loop-item-init : goal.loop-item-init
loop-item-init g c = (serializes_nil _, refl)

pub loop-item-preserved : goal.loop-item-preserved
loop-item-preserved g c = (
  serializes_as _ (items_more g.T.Serialize.encoding c.args.items.now c.loop-item.item-index
      c.item-item.result c.loop-item-test.true c.item-item.is)
      (serializes_then _ _ _ c.loop-item.invariant.0 c.in_ok-put_leaf.ensures.writes),
  c.in_ok-put_leaf.ensures.kept ∙ c.loop-item.invariant.1,
)

pub returns-in_err-put_leaf : goal.returns-in_err-put_leaf
returns-in_err-put_leaf g c =
    let r : c.from_residual.result ≡ None = search rules in
    pushes_as (items_after g.T.Serialize.encoding c.args.items.now c.loop-item.item-index
    c.item-item.result c.loop-item-test.true c.item-item.is)
    (pushes_out _ r (pushes_on _ c.loop-item.invariant.0 c.loop-item.invariant.1
    c.in_err-put_leaf.ensures))

pub returns : goal.returns
returns g c =
    let e : c.loop-item.item-index ≡ length c.args.items.now = omega arith in
    pushes_as (ap (each_encoding g.T.Serialize.encoding) (ap (λ j. take j c.args.items.now) e
    ∙ take-length c.args.items.now))
    (pushes_done c.loop-item.invariant.0 c.loop-item.invariant.1)
