use Rattle.std.proofs.Common.{rules}
use Rattle.cbor4ii_items.specs.Laws.StringErrors.{as_once, text_once, lent_once}
use Rattle.cbor4ii_items.proofs.laws.strings_are_rejected_once.Goals as goal

pub returns : goal.returns
returns g c = search (rules, as_once, text_once, lent_once)
