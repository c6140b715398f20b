use Rattle.cbor4ii.proofs.IfKnown.{decoded}
use Rattle.cbor4ii.proofs.serde.de.raw.BoxedRawValueDeserialize.deserialize.Goals as goal

pub returns-clause-item : goal.returns-clause-item
returns-clause-item g c = decoded _ (rw c.typed.ensures c.decode.ensures.copies.decodes)

pub returns-clause-copies : goal.returns-clause-copies
returns-clause-copies g c = rw c.typed.ensures c.decode.ensures.copies

pub returns-clause-unlent : goal.returns-clause-unlent
returns-clause-unlent g c never = rw c.typed.ensures (c.decode.ensures.unlent never)
