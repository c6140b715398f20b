use Rattle.std.proofs.Common.{rules}
use Rattle.cbor4ii_examples.proofs.Sorting.{sorted_is_in_order}
use Rattle.cbor4ii_examples.proofs.sorted.sort.Goals as goal

pub returns-clause-order : goal.returns-clause-order
returns-clause-order c = search (rules, sorted_is_in_order)
