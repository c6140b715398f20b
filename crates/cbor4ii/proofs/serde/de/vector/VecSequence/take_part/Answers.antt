use Rattle.cbor4ii.specs.Typed.{answer_of}
use Rattle.cbor4ii.proofs.Promised.{tell}
use Rattle.cbor4ii.proofs.serde.de.vector.VecSequence.take_part.Goals as goal

pub returns : goal.returns
returns g c =
    tell g.T.Typed.promise (answer_of c.deserialize.result) c.deserialize.ensures
