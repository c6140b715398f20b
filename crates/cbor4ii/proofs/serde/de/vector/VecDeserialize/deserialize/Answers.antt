use Rattle.std.specs.Prelude.{codes}
use Rattle.cbor4ii.specs.TypedParts.{part_of, typed_vector}
use Rattle.cbor4ii.proofs.Parts.{vector_of}
use Rattle.cbor4ii.proofs.Promised.{promised}
use Rattle.cbor4ii.proofs.serde.de.vector.VecDeserialize.deserialize.Goals as goal

pub returns : goal.returns
returns g c =
    promised (typed_vector g.T.Typed.promise)
    (vector_of (codes "seq") (codes "array") 4 (part_of g.T.Typed.promise) c.take_sequence.result
    c.take_sequence.ensures)
