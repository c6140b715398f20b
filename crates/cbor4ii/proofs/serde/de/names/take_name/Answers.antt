use Rattle.std.proofs.Common.{rules}
use Rattle.cbor4ii.proofs.Names.{then_takes}
use Rattle.cbor4ii.proofs.serde.de.names.take_name.Goals as goal

pub returns-in-Some-Cut : goal.returns-in-Some-Cut
returns-in-Some-Cut g c = search (rules, then_takes)

pub returns-in-Some-Other : goal.returns-in-Some-Other
returns-in-Some-Other g c = search (rules, then_takes)
