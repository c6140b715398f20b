use Rattle.std.proofs.Common.{rules}
use Rattle.cbor4ii_items.specs.Initial.{simple_undefined}
use Rattle.cbor4ii_tree.specs.declared.value.Value.{the_lemmas}
use Rattle.cbor4ii_tree.proofs.simple.simple_of.Goals as goal

pub returns-in-247 : goal.returns-in-247
returns-in-247 c = (simple_undefined, c.in-247.is, search (rules, the_lemmas))
