use Rattle.std.proofs.Common.{rules}
use Rattle.cbor4ii.proofs.ShownParts.{some_shown}
use Rattle.cbor4ii.proofs.serde.de.option.OptionTyped.shown_leaf.Goals as goal

pub returns : goal.returns
returns g c = search (rules, some_shown)
