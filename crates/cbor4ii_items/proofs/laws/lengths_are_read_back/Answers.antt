use Rattle.cbor4ii_items.specs.Laws.PartsBack.{length_back, indefinite_back}
use Rattle.cbor4ii_items.proofs.laws.lengths_are_read_back.Goals as goal

pub returns-clause-definite : goal.returns-clause-definite
returns-clause-definite c = length_back

pub returns-clause-indefinite : goal.returns-clause-indefinite
returns-clause-indefinite c = indefinite_back
