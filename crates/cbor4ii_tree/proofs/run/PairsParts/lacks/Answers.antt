use Rattle.std.proofs.Common.{rules}
use Rattle.std.proofs.{lemmas.Bool.{ltb-true, ltb-false}}
use Rattle.cbor4ii_tree.proofs.values.Sequences.{pairs_long, many_pairs}
use Rattle.cbor4ii_tree.proofs.run.PairsParts.lacks.Goals as goal

pub returns-clause-less : goal.returns-clause-less
returns-clause-less c e = search (rules, pairs_long, ltb-true, many_pairs)

pub returns-clause-full : goal.returns-clause-full
returns-clause-full c e = search (rules, pairs_long, ltb-false, many_pairs)
