use Rattle.std.proofs.Common.{rules}
use Rattle.cbor4ii.proofs.Names.{stands_after}
use Rattle.cbor4ii.proofs.serde.de.names.name_after.Goals as goal

pub returns : goal.returns
returns c = search (rules, stands_after)
