use Rattle.std.proofs.Common.{rules}
use Rattle.cbor4ii.proofs.Names.{short_name}
use Rattle.cbor4ii.proofs.serde.de.names.seen_name.Goals as goal

pub returns : goal.returns
returns c = search (rules, short_name)
