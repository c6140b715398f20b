use Rattle.cbor4ii_items.specs.Laws.SequenceErrors.{map_once}
use Rattle.cbor4ii_items.proofs.laws.maps_are_rejected_once.Goals as goal

pub returns : goal.returns
returns g c = map_once g.K.Decodable.format g.V.Decodable.format g.met.K.Decodable.lawful
    g.met.V.Decodable.lawful
