use Rattle.std.proofs.Common.{◌≢◌, ◌⊎◌, subst, rules, arith}
use Rattle.cbor4ii_tree.specs.{Basis.Canonical.with_bignums, Basis.View.view}
use Rattle.cbor4ii_tree.specs.declared.value.Value.{Value, the_lemmas}
use Rattle.cbor4ii_tree.proofs.values.Encoding.{items_change, items_tagged, pairs_change}
use Rattle.cbor4ii_tree.proofs.values.Encoding.{pairs_tagged, size-at, sizes-at}
use Rattle.cbor4ii_tree.proofs.bignum.+bignums.Goals as goal

-- the variant is opened, since its second part is what was changed
pub tag_bignums-returns-in-Tag : goal.tag_bignums-returns-in-Tag
unfolding Rattle.cbor4ii_tree.specs.declared.value.Value.TheViews.out-Value denote.Hole.Carrier.out
tag_bignums-returns-in-Tag t c = rw c.in-Tag.is (search (rules, the_lemmas))

pub tag_items-loop-i-preserved : goal.tag_items-loop-i-preserved
tag_items-loop-i-preserved t c =
    let i = c.loop-i.i in
    let x = c.index-items-i.result in (
      search rules,
      items_tagged c.loop-i.items c.args.items.now i x c.tag_bignums.new.value (omega arith)
          c.loop-i-test.true (c.loop-i.invariant.0.1 i x (omega arith)) c.loop-i.invariant.1
          c.in_ok-tag_bignums.ensures.tagged,
    )

pub tag_pairs-loop-i-preserved : goal.tag_pairs-loop-i-preserved
tag_pairs-loop-i-preserved t c =
    let i = c.loop-i.i in
    let x = c.index-pairs-i.result in (
      search rules,
      pairs_tagged c.loop-i.pairs c.args.pairs.now i x c.tag_pair.new.pair (omega arith)
          c.loop-i-test.true (c.loop-i.invariant.0.1 i x (omega arith)) c.loop-i.invariant.1
          c.in_ok-tag_pair.ensures.key c.in_ok-tag_pair.ensures.value,
    )

pub tag_items-tag_bignums-requires : goal.tag_items-tag_bignums-requires
tag_items-tag_bignums-requires t c = search (rules, size-at)

pub tag_pairs-tag_pair-requires : goal.tag_pairs-tag_pair-requires
tag_pairs-tag_pair-requires t c = search (rules, sizes-at)

pub tag_items-returns-in_err-tag_bignums-clause-memory :
    goal.tag_items-returns-in_err-tag_bignums-clause-memory
tag_items-returns-in_err-tag_bignums-clause-memory t c =
    let i = c.loop-i.i in
    let x = c.index-items-i.result in
    let here = subst (λ (v : Value). with_bignums (view v) ≢ view v)
    (c.loop-i.invariant.0.1 i x (omega arith)) c.in_err-tag_bignums.ensures.memory in
    let all = items_change c.args.items.now i x (omega arith) here in
    search (rules, all)

pub tag_pairs-returns-in_err-tag_pair-clause-memory :
    goal.tag_pairs-returns-in_err-tag_pair-clause-memory
tag_pairs-returns-in_err-tag_pair-clause-memory t c =
    let i = c.loop-i.i in
    let x = c.index-pairs-i.result in
    let here = subst (λ (m : Value × Value). (with_bignums (view m.0) ≢ view m.0)
    ⊎ (with_bignums (view m.1) ≢ view m.1)) (c.loop-i.invariant.0.1 i x (omega arith))
    c.in_err-tag_pair.ensures.memory in
    let all = pairs_change c.args.pairs.now i x (omega arith) here in
    search (rules, all)
