use Rattle.cbor4ii.specs.Laws.ValuesBack.{cost_least}
use Rattle.cbor4ii.proofs.serde.laws.values_cost_no_more_than_canonical_ones.Goals as goal

pub returns : goal.returns
returns c = cost_least
