use Rattle.std.proofs.Common.{rules}
use Rattle.cbor4ii_tree.proofs.values.Sequences.{pair_put}
use Rattle.cbor4ii_tree.proofs.run.PairsParts.put.Goals as goal

pub returns : goal.returns
returns c = search (rules, pair_put)
