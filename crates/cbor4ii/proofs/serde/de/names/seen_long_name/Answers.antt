use Rattle.std.proofs.Common.{rules}
use Rattle.cbor4ii.proofs.Names.{long_name}
use Rattle.cbor4ii.proofs.serde.de.names.seen_long_name.Goals as goal

pub returns : goal.returns
returns c = search (rules, long_name)
