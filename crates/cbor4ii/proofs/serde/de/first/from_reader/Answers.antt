use Rattle.std.proofs.Common.{rules}
use Rattle.cbor4ii.proofs.Firsts.{first_streamed}
use Rattle.cbor4ii.proofs.serde.de.first.from_reader.Goals as goal

pub returns : goal.returns
returns g c = search (rules, first_streamed)
