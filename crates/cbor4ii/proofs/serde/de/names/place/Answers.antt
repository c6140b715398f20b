use Rattle.std.proofs.Common.{rules}
use Rattle.cbor4ii.proofs.Labels.{name_here, name_nowhere}
use Rattle.cbor4ii.proofs.serde.de.names.place.Goals as goal

pub returns-then-is_same-clause-which : goal.returns-then-is_same-clause-which
returns-then-is_same-clause-which c = search (rules, name_here)

pub returns-clause-which : goal.returns-clause-which
returns-clause-which c = search (rules, name_nowhere)
