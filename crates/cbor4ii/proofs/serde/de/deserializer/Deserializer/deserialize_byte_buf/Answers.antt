use Rattle.std.proofs.Common.{rules}
use Rattle.cbor4ii.proofs.Handed.{unwrapped}
use Rattle.cbor4ii.proofs.serde.de.deserializer.Deserializer.deserialize_byte_buf.Goals as goal

pub returns : goal.returns
returns g c = search (rules, unwrapped)
