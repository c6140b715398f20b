use Rattle.std.proofs.Common.{rules}
use Rattle.cbor4ii.proofs.Borrowing.{bytes_answer, lent_place}
use Rattle.cbor4ii.proofs.serde.de.borrowed.BytesRefSliceU8DeserializeSliceReader.deserialize.Goals as goal

pub returns-clause-item : goal.returns-clause-item
returns-clause-item c = search (rules, bytes_answer)

pub returns-clause-place : goal.returns-clause-place
returns-clause-place c = search (rules, lent_place)
