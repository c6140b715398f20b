use Rattle.cbor4ii_items.specs.Laws.SequencesApart.{map_apart}
use Rattle.cbor4ii_items.proofs.laws.rejected_maps_are_not_read.Goals as goal

pub returns-clause-rejects : goal.returns-clause-rejects
returns-clause-rejects g c =
    let k = g.K.Decodable.format in
    let v = g.V.Decodable.format in
    map_apart k v k.rejects v.rejects g.met.K.Decodable.lawful g.met.V.Decodable.lawful

pub returns-clause-begins : goal.returns-clause-begins
returns-clause-begins g c =
    let k = g.K.Decodable.format in
    let v = g.V.Decodable.format in
    map_apart k v k.begins v.begins g.met.K.Decodable.lawful g.met.V.Decodable.lawful
