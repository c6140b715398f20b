use Rattle.std.proofs.Common.{rules}
use Rattle.cbor4ii.proofs.Labels.{stands_here, stands_nowhere}
use Rattle.cbor4ii.proofs.serde.de.keys.integer_place.Goals as goal

pub returns-then-is_key : goal.returns-then-is_key
returns-then-is_key c = search (rules, stands_here)

pub returns : goal.returns
returns c = search (rules, stands_nowhere)
