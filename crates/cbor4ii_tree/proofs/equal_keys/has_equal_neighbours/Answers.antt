use Rattle.std.proofs.Common.{length-drop, rules}
use Rattle.cbor4ii_tree.proofs.values.Encoding.{repeats_past, repeats_short}
use Rattle.cbor4ii_tree.proofs.equal_keys.has_equal_neighbours.Goals as goal

pub loop-i-preserved : goal.loop-i-preserved
loop-i-preserved c = search (rules, repeats_past)

pub returns : goal.returns
returns c = search (rules, repeats_short, length-drop)
