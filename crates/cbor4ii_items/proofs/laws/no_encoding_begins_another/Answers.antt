use Rattle.cbor4ii_items.specs.Laws.NumbersBack.{none_begins}
use Rattle.cbor4ii_items.proofs.laws.no_encoding_begins_another.Goals as goal

pub returns : goal.returns
returns g c = none_begins _ _ _ g.met.T.Decodable.lawful.one g.met.T.Decodable.lawful.alone
