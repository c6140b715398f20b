use Rattle.cbor4ii.proofs.IfKnown.{decoded}
use Rattle.cbor4ii.proofs.serde.de.cow.CowStrGlobalDeserializeSegmentReader.deserialize.Goals as goal

pub returns-clause-item : goal.returns-clause-item
returns-clause-item c = decoded _ (rw c.typed.ensures c.decode.ensures.decodes)
