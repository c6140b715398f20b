use Rattle.std.proofs.Common.{rules}
use Rattle.cbor4ii_examples.proofs.CutSequence.{cut_is_eof}
use Rattle.cbor4ii_examples.proofs.sequence.next_value.Goals as goal

pub returns-clause-cut : goal.returns-clause-cut
returns-clause-cut g c = search (rules, cut_is_eof)
