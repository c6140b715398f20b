use Rattle.std.proofs.Common.{rules}
use Rattle.cbor4ii.proofs.Apart.{present_apart, presence_apart}
use Rattle.cbor4ii.proofs.serde.laws.rejected_options_are_not_read.Goals as goal

pub returns-clause-value : goal.returns-clause-value
returns-clause-value g c = search (rules, present_apart)

pub returns-clause-presence : goal.returns-clause-presence
returns-clause-presence g c = presence_apart
