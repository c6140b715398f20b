use Rattle.cbor4ii_tree.proofs.skip_calls.{Deeper.one_done, Doing.refused}
use Rattle.cbor4ii_tree.proofs.skip.items.skip_item.Goals as goal

pub returns-in-Some-clause-does : goal.returns-in-Some-clause-does
returns-in-Some-clause-does g c = (one_done _ c.in-Some.ensures).does

pub returns-in-Some-clause-progress : goal.returns-in-Some-clause-progress
returns-in-Some-clause-progress g c = c.in-Some.ensures.gains.1 c.in-Some.ensures.gains.0.0

pub returns-in-None-clause-does : goal.returns-in-None-clause-does
returns-in-None-clause-does g c = refused (rw c.unwrap.ensures at c.in-None.ensures.does)
