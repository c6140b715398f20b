use Rattle.std.proofs.Common.{◌≡◌, ◌≤◌, sym, ap, ◌∙◌, subst, subst₂, arith, rules}
use Rattle.std.proofs.lemmas.Int.{to_z-of_z}
use Rattle.std.specs.declared.cmp.Ordering.TheVariants.{Equal}
use mir.Syntax.{w128}
use Rattle.cbor4ii_tree.specs.{Calls.Order.{major_of, Compares, after_head}, Basis.View.view}
use Rattle.cbor4ii_tree.specs.{Calls.Encoding.value_bytes, Basis.Item.integer}
use Rattle.cbor4ii_tree.proofs.encodings.Order.{PartsOf, compares_nothing, compares_back}
use Rattle.cbor4ii_tree.proofs.encodings.Order.{same_major, after_small, small_integer, big_integer}
use Rattle.cbor4ii_tree.proofs.{encodings.Order.after_tag, values.Encoding.{view-Integer, view-Tag}}
use Rattle.cbor4ii_tree.proofs.order.cmp_integer.Goals as goal

pub returns-then-size : goal.returns-then-size
returns-then-size c =
    let z = c.args.number in
    let parts = c.bignum_parts-size.result in
    let is : PartsOf z parts =
    subst (λ y. PartsOf y parts) (to_z-of_z w128 z c.ranges.number) c.bignum_parts-size.ensures in
    let small : major_of (integer z) ≤ 1 =
    small_integer z parts is (omega (arith, c.if-size.true)) in
    let same = same_major (integer z) (view c.args.b.now) c.requires in
    subst₂ (Compares Equal) (sym (after_small (integer z) small))
    (sym (after_small (view c.args.b.now) (subst (λ k. k ≤ 1) same small))) compares_nothing

pub returns-in-Tag : goal.returns-in-Tag
returns-in-Tag c =
    let z = c.args.number in
    let parts = c.bignum_parts-size.result in
    let is : PartsOf z parts =
    subst (λ y. PartsOf y parts) (to_z-of_z w128 z c.ranges.number) c.bignum_parts-size.ensures in
    let big = big_integer z parts is (omega (arith, c.if-size.false)) in
    subst (λ r. Compares r (after_head (integer z)) (after_head (view c.args.b.now)))
    (sym c.reverse.ensures) (subst₂ (Compares _) (sym (after_tag z parts is big)) (ap value_bytes
    c.deref.ensures ∙ sym (ap after_head (ap view c.in-Tag.is ∙ view-Tag c.in-Tag.field-0
    c.in-Tag.other))) (compares_back c.cmp_with_bignum.ensures))

pub returns-in-Integer : goal.returns-in-Integer
returns-in-Integer c =
    let z = c.args.number in
    let y = c.in-Integer.other in
    let parts = c.bignum_parts-size.result in
    let others = c.bignum_parts.result in
    let is : PartsOf z parts =
    subst (λ x. PartsOf x parts) (to_z-of_z w128 z c.ranges.number) c.bignum_parts-size.ensures in
    let other : PartsOf y others =
    subst (λ x. PartsOf x others) (to_z-of_z w128 y (search rules)) c.bignum_parts.ensures in
    let big = big_integer z parts is (omega (arith, c.if-size.false)) in
    let seen : view c.args.b.now ≡ integer y = ap view c.in-Integer.is ∙ view-Integer y in
    let same = same_major (integer z) (view c.args.b.now) c.requires in
    let big_other : major_of (integer y) ≡ 6 = sym (same ∙ ap major_of seen) ∙ big in
    subst₂ (Compares c.cmp_bignums.result) (sym (after_tag z parts is big)) (sym (after_tag y others
    other big_other) ∙ sym (ap after_head seen)) c.cmp_bignums.ensures
