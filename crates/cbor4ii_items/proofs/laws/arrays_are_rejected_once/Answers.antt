use Rattle.cbor4ii_items.specs.Laws.SequenceErrors.{array_once}
use Rattle.cbor4ii_items.proofs.laws.arrays_are_rejected_once.Goals as goal

pub returns : goal.returns
returns g c = array_once g.T.Decodable.format g.met.T.Decodable.lawful
