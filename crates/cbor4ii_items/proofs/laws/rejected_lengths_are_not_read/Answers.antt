use Rattle.cbor4ii_items.specs.Laws.LeavesApart.{length_apart, break_apart}
use Rattle.cbor4ii_items.proofs.laws.rejected_lengths_are_not_read.Goals as goal

pub returns-clause-lengths : goal.returns-clause-lengths
returns-clause-lengths c = length_apart

pub returns-clause-breaks : goal.returns-clause-breaks
returns-clause-breaks c = break_apart
