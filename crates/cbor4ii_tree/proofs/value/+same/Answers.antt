use Rattle.std.proofs.Common.{rules}
use Rattle.std.proofs.{Common.{◌<◌, arith, length, refl}, lemmas.List.take_more}
use Rattle.cbor4ii_tree.proofs.values.Encoding.{length-items_view, length-pairs_view, view_at}
use Rattle.cbor4ii_tree.proofs.values.Encoding.{items_view-push, views_at, pairs_more, mapping_same}
use Rattle.cbor4ii_tree.proofs.value.+same.Goals as goal

pub same_value-returns-in-Map-Map : goal.same_value-returns-in-Map-Map
same_value-returns-in-Map-Map t c = search (rules, mapping_same)

pub same_items-returns-then-a-b : goal.same_items-returns-then-a-b
same_items-returns-then-a-b t c = search (rules, length-items_view)

pub same_pairs-returns-then-a-b : goal.same_pairs-returns-then-a-b
same_pairs-returns-then-a-b t c = search (rules, length-pairs_view)

pub same_items-returns-then-not-same_value : goal.same_items-returns-then-not-same_value
same_items-returns-then-not-same_value t c = search (rules, view_at)

pub same_items-loop-i-preserved : goal.same_items-loop-i-preserved
same_items-loop-i-preserved t c =
    let x = c.index-a-i.result in
    let y = c.index-b-i.result in
    rw (
      take_more c.args.a.now c.loop-i.i x c.loop-i-test.true,
      take_more c.args.b.now c.loop-i.i y (omega arith),
      ← c.index-a-i.is,
      ← c.index-b-i.is,
    ) (items_view-push _ _ x y c.loop-i.invariant (c.if-not-same_value.ensures.0 refl))

pub same_pairs-returns-then-not-same_value : goal.same_pairs-returns-then-not-same_value
same_pairs-returns-then-not-same_value t c = search (rules, views_at)

pub same_pairs-returns-then-not-same_value-2 : goal.same_pairs-returns-then-not-same_value-2
same_pairs-returns-then-not-same_value-2 t c = search (rules, views_at)

pub same_pairs-loop-i-preserved : goal.same_pairs-loop-i-preserved
same_pairs-loop-i-preserved t c =
    let a = c.args.a.now in
    let b = c.args.b.now in
    let i = c.loop-i.i in
    let in_a : i < length a = c.loop-i-test.true in
    let in_b : i < length b = omega arith in
    pairs_more _ _ _ _ _ _ _ in_a in_b c.loop-i.invariant (c.if-not-same_value.ensures.0 refl)
    (c.if-not-same_value-2.ensures.0 refl)
