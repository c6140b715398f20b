use Rattle.cbor4ii_examples.proofs.{SameOrder.{same_back, same_on}, SortedValues.same_as_itself}
use Rattle.cbor4ii_examples.proofs.sorted.same_up_to_order_is_an_equivalence.Goals as goal

pub returns-clause-itself : goal.returns-clause-itself
returns-clause-itself c = same_as_itself

pub returns-clause-back : goal.returns-clause-back
returns-clause-back c = same_back

pub returns-clause-on : goal.returns-clause-on
returns-clause-on c = same_on
