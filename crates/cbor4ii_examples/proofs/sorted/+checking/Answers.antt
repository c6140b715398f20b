use Rattle.std.proofs.Common.{rules}
use Rattle.cbor4ii_examples.proofs.SortedValues.{map_ascends}
use Rattle.cbor4ii_examples.proofs.sorted.+checking.Goals as goal

pub is_sorted-returns-then-keys_ascend : goal.is_sorted-returns-then-keys_ascend
is_sorted-returns-then-keys_ascend t c = search (rules, map_ascends)

pub is_sorted-returns-else-keys_ascend : goal.is_sorted-returns-else-keys_ascend
is_sorted-returns-else-keys_ascend t c = search (rules, map_ascends)
