use Rattle.std.proofs.Common.{rules}
use Rattle.cbor4ii.proofs.Casing.{held_then}
use Rattle.cbor4ii.proofs.serde.de.cases.HoldsCase.take.Goals as goal

pub returns : goal.returns
returns g c = search (rules, held_then)
