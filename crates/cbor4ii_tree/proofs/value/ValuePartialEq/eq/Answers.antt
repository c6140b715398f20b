use Rattle.std.proofs.Common.{rules}
use Rattle.std.proofs.lemmas.Bool.Decides.{same_from_decides}
use Rattle.cbor4ii_tree.specs.{Calls.ItemEquality.{item_eq-Decides}}
use Rattle.cbor4ii_tree.proofs.value.ValuePartialEq.eq.Goals as goal

pub returns-clause-answer : goal.returns-clause-answer
returns-clause-answer c = search (rules, same_from_decides, item_eq-Decides)
