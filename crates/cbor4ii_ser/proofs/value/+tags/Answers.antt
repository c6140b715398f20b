use Rattle.cbor4ii_ser.specs.Values.{some_holds_tag, pairs_hold_tag}
use Rattle.cbor4ii_tree.specs.Basis.View.{items_view, pairs_view}
use Rattle.std.proofs.Math.Seq.{take-length}
use Rattle.std.proofs.Common.{sym, ap, ◌∙◌, ◌≡◌, length, take, arith, rules}
use Rattle.cbor4ii_ser.proofs.HoldingTags.{items_none, items_found, pairs_none, key_found}
use Rattle.cbor4ii_ser.proofs.HoldingTags.{value_found}
use Rattle.cbor4ii_ser.proofs.value.+tags.Goals as goal

pub some_holds_tag-returns-then-holds_tag : goal.some_holds_tag-returns-then-holds_tag
some_holds_tag-returns-then-holds_tag t c = search (rules, items_found)

pub some_holds_tag-loop-item-preserved : goal.some_holds_tag-loop-item-preserved
some_holds_tag-loop-item-preserved t c = search (rules, items_none)

pub pairs_hold_tag-returns-then-holds_tag : goal.pairs_hold_tag-returns-then-holds_tag
pairs_hold_tag-returns-then-holds_tag t c = search (rules, key_found)

pub pairs_hold_tag-returns-then-holds_tag-2 : goal.pairs_hold_tag-returns-then-holds_tag-2
pairs_hold_tag-returns-then-holds_tag-2 t c = search (rules, value_found)

pub pairs_hold_tag-loop-pair-preserved : goal.pairs_hold_tag-loop-pair-preserved
pairs_hold_tag-loop-pair-preserved t c = search (rules, pairs_none)

pub some_holds_tag-returns : goal.some_holds_tag-returns
some_holds_tag-returns t c =
    let e : c.loop-item.item-index ≡ length c.args.items.now = omega arith in
    sym (ap (λ vs. some_holds_tag (items_view vs))
    (sym (ap (λ j. take j c.args.items.now) e ∙ take-length c.args.items.now))
    ∙ c.loop-item.invariant)

pub pairs_hold_tag-returns : goal.pairs_hold_tag-returns
pairs_hold_tag-returns t c =
    let e : c.loop-pair.pair-index ≡ length c.args.pairs.now = omega arith in
    sym (ap (λ ms. pairs_hold_tag (pairs_view ms))
    (sym (ap (λ j. take j c.args.pairs.now) e ∙ take-length c.args.pairs.now))
    ∙ c.loop-pair.invariant)
