use Rattle.cbor4ii_items.specs.Laws.SequencesApart.{array_apart}
use Rattle.cbor4ii_items.proofs.laws.rejected_arrays_are_not_read.Goals as goal

pub returns : goal.returns
returns g c = record {
  rejects = let s = g.T.Decodable.format in array_apart s s.rejects g.met.T.Decodable.lawful;
  begins = let s = g.T.Decodable.format in array_apart s s.begins g.met.T.Decodable.lawful;
}
