use Rattle.std.proofs.Common.{rules}
use Rattle.cbor4ii.proofs.Borrowing.{bytes_answer}
use Rattle.cbor4ii.proofs.serde.de.borrowed.BytesRefSliceU8DeserializeSegmentReader.deserialize.Goals as goal

pub returns : goal.returns
returns c = search (rules, bytes_answer)
