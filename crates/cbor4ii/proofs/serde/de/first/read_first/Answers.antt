use Rattle.cbor4ii.proofs.Firsts.{first_of}
use Rattle.cbor4ii.proofs.serde.de.first.read_first.Goals as goal

pub returns : goal.returns
returns g c =
    first_of g.T.Typed.promise c.deserialize.result _ _ _ c.new-de.ensures c.deserialize.ensures
