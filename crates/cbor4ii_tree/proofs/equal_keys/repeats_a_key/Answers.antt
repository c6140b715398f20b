use Rattle.std.proofs.{Common.{rules, subst, sym}, lemmas.List.Sorted.answers_always}
use Rattle.std.specs.List.Sorted.{IsSortedBy}
use Rattle.cbor4ii_tree.specs.Calls.TotalOrder.{is_before}
use Rattle.cbor4ii_tree.proofs.values.Encoding.{before_by, before_is_order, keys_short, sorted_keys}
use Rattle.cbor4ii_tree.proofs.values.Encoding.{pair_count-pairs_view}
use Rattle.cbor4ii_tree.proofs.equal_keys.repeats_a_key.Goals as goal

pub returns-then-len-lt2-clause-answer : goal.returns-then-len-lt2-clause-answer
returns-then-len-lt2-clause-answer c = search (rules, keys_short)

pub returns-in_err-keys-clause-memory : goal.returns-in_err-keys-clause-memory
returns-in_err-keys-clause-memory c = search (rules, pair_count-pairs_view)

pub has_equal_neighbours-requires : goal.has_equal_neighbours-requires
has_equal_neighbours-requires c =
    subst (IsSortedBy is_before) (sym c.deref.ensures.value)
    (c.sort_unstable_by.ensures.sorted is_before before_is_order
    (answers_always _ _ _ (λ f a r next called. search (rules, before_by))))

pub returns-clause-answer : goal.returns-clause-answer
returns-clause-answer c = search (rules, sorted_keys)
