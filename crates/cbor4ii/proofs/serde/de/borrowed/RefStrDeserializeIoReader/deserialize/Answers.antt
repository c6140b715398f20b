use Rattle.std.proofs.Common.{rules}
use Rattle.cbor4ii.proofs.Unlending.{copy_rejected}
use Rattle.cbor4ii.proofs.serde.de.borrowed.RefStrDeserializeIoReader.deserialize.Goals as goal

pub returns-clause-item : goal.returns-clause-item
returns-clause-item g c = search (rules, copy_rejected)
