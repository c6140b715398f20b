use Rattle.std.proofs.Common.{rules}
use Rattle.std.proofs.lemmas.List.Sorted.{answers_always}
use Rattle.cbor4ii_examples.proofs.SortedValues.{answered, ascending, pair_below}
use Rattle.cbor4ii_examples.proofs.sorted.keys_ascend.Goals as goal

pub returns : goal.returns
returns c =
    ascending c.is_sorted_by.result c.args.pairs.now (c.is_sorted_by.ensures.cases pair_below
    (answers_always _ _ _ (λ f a r next called. search (rules, answered))))
