use Rattle.std.proofs.Common.{◌≡◌, ◌⊎◌, inl, ◌++◌, OnErr, arith, refl, rules, subst, sym, ap, ◌∙◌}
use Rattle.std.proofs.Common.{length, take, drop}
use Rattle.std.proofs.lemmas.List.Sorted.{answers_always}
use Rattle.cbor4ii_tree.specs.Calls.Access.{HasMapWith, PairHasMapWith}
use Rattle.cbor4ii_tree.specs.Basis.View.{items_view, pairs_view, view}
use Rattle.cbor4ii_tree.specs.declared.value.Value.{Value, the_lemmas}
use Rattle.cbor4ii_examples.specs.Sorted.{HasManyPairs, SameUpToOrder, in_order, sorted_pairs}
use Rattle.cbor4ii_examples.specs.Sorted.{SamePairs}
use Rattle.cbor4ii_examples.proofs.Sorting.{pairs_are_same}
use Rattle.cbor4ii_examples.proofs.SortedValues.{all_in_place, items_as_themselves, items_more}
use Rattle.cbor4ii_examples.proofs.SortedValues.{items_set, pair_at, pairs_in_place, pairs_more}
use Rattle.cbor4ii_examples.proofs.SortedValues.{pairs_set, same_as_itself, size-at, sizes-at}
use Rattle.cbor4ii_examples.proofs.SortedValues.{some_at, view-Map, answered, pair_below}
use Rattle.cbor4ii_examples.proofs.SortedValues.{pair_order, sorted_by_keys, written_back, is_over}
use Rattle.cbor4ii_examples.proofs.SortedValues.{pair_count-pairs_view}
use Rattle.cbor4ii_examples.proofs.sorted.+sorting.Goals as goal

-- the variant is opened, since its second part is what was changed
pub sort_value-returns-in-Tag-clause-sorted : goal.sort_value-returns-in-Tag-clause-sorted
unfolding Rattle.cbor4ii_tree.specs.declared.value.Value.TheViews.out-Value denote.Hole.Carrier.out
sort_value-returns-in-Tag-clause-sorted t c = rw c.in-Tag.is (search (rules, the_lemmas))

pub sort_value-returns-in-Tag-clause-same : goal.sort_value-returns-in-Tag-clause-same
unfolding Rattle.cbor4ii_tree.specs.declared.value.Value.TheViews.out-Value denote.Hole.Carrier.out
sort_value-returns-in-Tag-clause-same t c = rw c.in-Tag.is (search (rules, the_lemmas))

pub sort_value-returns-in-Map-clause-same : goal.sort_value-returns-in-Map-clause-same
unfolding Rattle.cbor4ii_tree.specs.declared.value.Value.TheViews.out-Value denote.Hole.Carrier.out
sort_value-returns-in-Map-clause-same t c =
    rw (c.in-Map.is, view-Map c.in-Map.pairs, view-Map c.sort_map.new.pairs)
    (simp the_lemmas at (rw c.in-Map.is at c.sort_map.ensures.same))

pub sort_value-returns-in-Map-clause-memory : goal.sort_value-returns-in-Map-clause-memory
unfolding Rattle.cbor4ii_tree.specs.declared.value.Value.TheViews.out-Value denote.Hole.Carrier.out
sort_value-returns-in-Map-clause-memory t c =
    let whole = ap view c.in-Map.is ∙ view-Map c.in-Map.pairs in
    subst (λ i. OnErr c.sort_map.result (HasMapWith HasManyPairs i)) (sym whole)
    (simp the_lemmas at (rw c.in-Map.is at c.sort_map.ensures.memory))

pub sort_items-loop-i-init : goal.sort_items-loop-i-init
sort_items-loop-i-init t c =
    ((refl, λ k d h. refl), refl, items_as_themselves (items_view c.args.items.now))

pub sort_items-loop-i-preserved : goal.sort_items-loop-i-preserved
sort_items-loop-i-preserved t c =
    let i = c.loop-i.i in
    let x = c.index-items-i.result in
    let y = c.sort_value.new.value in
    let before = c.loop-i.invariant.0.1 i x (omega arith) in (
      search rules,
      items_more c.loop-i.items c.args.items.now i x y (omega arith) c.loop-i-test.true before
          c.loop-i.invariant.1 c.in_ok-sort_value.ensures.sorted,
      items_set c.args.items.now c.loop-i.items i x y (omega arith) c.loop-i.invariant.2
          (subst (λ (v : Value). SameUpToOrder (view v) (view y)) before c.sort_value.ensures.same),
    )

pub sort_items-sort_value-requires : goal.sort_items-sort_value-requires
sort_items-sort_value-requires t c =
    let i = c.loop-i.i in
    let x = c.index-items-i.result in
    let small = size-at c.args.items.now i x c.loop-i-test.true in
    rw (c.loop-i.invariant.0.1 i x (omega arith)) (omega (arith, small, c.decreases), tt)

pub sort_items-returns-in_err-sort_value-clause-same :
    goal.sort_items-returns-in_err-sort_value-clause-same
sort_items-returns-in_err-sort_value-clause-same t c =
    let i = c.loop-i.i in
    let x = c.index-items-i.result in
    let y = c.sort_value.new.value in
    items_set c.args.items.now c.loop-i.items i x y (omega arith) c.loop-i.invariant.2
    (subst (λ (v : Value). SameUpToOrder (view v) (view y))
    (c.loop-i.invariant.0.1 i x (omega arith)) c.sort_value.ensures.same)

pub sort_items-returns-in_err-sort_value-clause-memory :
    goal.sort_items-returns-in_err-sort_value-clause-memory
sort_items-returns-in_err-sort_value-clause-memory t c =
    let i = c.loop-i.i in
    let x = c.index-items-i.result in
    let here = subst (λ (v : Value). HasMapWith HasManyPairs (view v))
    (c.loop-i.invariant.0.1 i x (omega arith)) c.in_err-sort_value.ensures.memory in
    let some = some_at HasManyPairs c.args.items.now i x (omega arith) here in
    search (rules, some)

pub sort_pair-returns-in_err-sort_value-clause-same_value :
    goal.sort_pair-returns-in_err-sort_value-clause-same_value
sort_pair-returns-in_err-sort_value-clause-same_value t c =
    same_as_itself (view c.args.pair.now.1)

pub sort_pairs-loop-i-init : goal.sort_pairs-loop-i-init
sort_pairs-loop-i-init t c =
    ((refl, λ k d h. refl), refl, all_in_place c.args.pairs.now)

pub sort_pairs-loop-i-preserved : goal.sort_pairs-loop-i-preserved
sort_pairs-loop-i-preserved t c =
    let i = c.loop-i.i in
    let x = c.index-pairs-i.result in
    let y = c.sort_pair.new.pair in
    let before = c.loop-i.invariant.0.1 i x (omega arith) in (
      search rules,
      pairs_more c.loop-i.pairs c.args.pairs.now i x y (omega arith) c.loop-i-test.true before
          c.loop-i.invariant.1 c.in_ok-sort_pair.ensures.key c.in_ok-sort_pair.ensures.value,
      pairs_set c.args.pairs.now c.loop-i.pairs i x y (omega arith) c.loop-i.invariant.2
          (subst (λ (m : Value × Value). SameUpToOrder (view m.0) (view y.0)) before
          c.sort_pair.ensures.same_key)
          (subst (λ (m : Value × Value). SameUpToOrder (view m.1) (view y.1)) before
          c.sort_pair.ensures.same_value),
    )

pub sort_pairs-sort_pair-requires : goal.sort_pairs-sort_pair-requires
sort_pairs-sort_pair-requires t c =
    let i = c.loop-i.i in
    let x = c.index-pairs-i.result in
    let small = sizes-at c.args.pairs.now i x c.loop-i-test.true in
    rw (c.loop-i.invariant.0.1 i x (omega arith)) (omega (arith, small, c.decreases), tt)

pub sort_pairs-returns-in_err-sort_pair-clause-same :
    goal.sort_pairs-returns-in_err-sort_pair-clause-same
sort_pairs-returns-in_err-sort_pair-clause-same t c =
    let i = c.loop-i.i in
    let x = c.index-pairs-i.result in
    let y = c.sort_pair.new.pair in
    let before = c.loop-i.invariant.0.1 i x (omega arith) in
    pairs_in_place c.args.pairs.now _ (pairs_set c.args.pairs.now c.loop-i.pairs i x y
    (omega arith) c.loop-i.invariant.2
    (subst (λ (m : Value × Value). SameUpToOrder (view m.0) (view y.0)) before
    c.sort_pair.ensures.same_key)
    (subst (λ (m : Value × Value). SameUpToOrder (view m.1) (view y.1)) before
    c.sort_pair.ensures.same_value))

pub sort_pairs-returns-in_err-sort_pair-clause-memory :
    goal.sort_pairs-returns-in_err-sort_pair-clause-memory
sort_pairs-returns-in_err-sort_pair-clause-memory t c =
    let i = c.loop-i.i in
    let x = c.index-pairs-i.result in
    let here = subst (λ (m : Value × Value). HasMapWith HasManyPairs (view m.0)
    ⊎ HasMapWith HasManyPairs (view m.1)) (c.loop-i.invariant.0.1 i x (omega arith))
    c.in_err-sort_pair.ensures.memory in
    let some = pair_at HasManyPairs c.args.pairs.now i x (omega arith) here in
    search (rules, some)

pub sort_pairs-returns-clause-same : goal.sort_pairs-returns-clause-same
sort_pairs-returns-clause-same t c = pairs_in_place _ _ c.loop-i.invariant.2

pub sort_map-returns-clause-sorted : goal.sort_map-returns-clause-sorted
sort_map-returns-clause-sorted t c =
    let old = c.args.pairs.now.items in
    let all = c.sort_pairs.new.pairs in
    let held = take c.args.pairs.now.len (all ++ drop (length all) old) in
    let long : length all ≡ length old =
    c.sort_pairs.auto.pairs ∙ ap length c.deref_mut.ensures.value in
    let back : held ≡ all =
    written_back all old c.args.pairs.now.len long (omega (arith, c.args.pairs.now.ok)) in
    let up = c.in_ok-sort_by.ensures.sorted pair_below pair_order
    (answers_always _ _ _ (λ f a r next called. search (rules, answered))) in
    let stable = c.sort_by.ensures.stable pair_below pair_order
    (answers_always _ _ _ (λ f a r next called. search (rules, answered))) in
    sorted_by_keys held c.sort_by.new.self.items up stable
    ∙ ap (λ l. in_order (pairs_view l)) back
    ∙ ap in_order (c.in_ok-sort_pairs.ensures.sorted
    ∙ ap (λ l. sorted_pairs (pairs_view l)) c.deref_mut.ensures.value)

pub sort_map-returns-clause-same : goal.sort_map-returns-clause-same
sort_map-returns-clause-same t c =
    let old = pairs_view c.args.pairs.now.items in
    let done : pairs_view c.sort_by.new.self.items ≡ in_order (sorted_pairs old) =
    sort_map-returns-clause-sorted t c in
    subst (SamePairs old) (sym done) (pairs_are_same old)

pub sort_map-returns-in_err-sort_by-clause-memory :
    goal.sort_map-returns-in_err-sort_by-clause-memory
sort_map-returns-in_err-sort_by-clause-memory t c =
    let old = c.args.pairs.now.items in
    let over = is_over c.args.pairs.now.len c.in_err-sort_by.ensures.succeeds in
    let many : HasManyPairs (pairs_view old) =
    omega (arith, c.args.pairs.now.ok, pair_count-pairs_view old, over) in
    let some : HasManyPairs (pairs_view old) ⊎ PairHasMapWith HasManyPairs (pairs_view old) =
    inl many in
    search (rules, some)
