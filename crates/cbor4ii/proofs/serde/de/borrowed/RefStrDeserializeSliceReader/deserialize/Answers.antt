use Rattle.std.proofs.Common.{rules}
use Rattle.cbor4ii.proofs.Borrowing.{text_answer}
use Rattle.cbor4ii.proofs.serde.de.borrowed.RefStrDeserializeSliceReader.deserialize.Goals as goal

pub returns : goal.returns
returns c = search (rules, text_answer)
