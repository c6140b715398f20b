use Rattle.std.proofs.Common.{rules}
use Rattle.cbor4ii_items.specs.Laws.ContainerErrors.{option_once, tag_once, maybe_once, boxed_once}
use Rattle.cbor4ii_items.proofs.laws.parts_are_rejected_once.Goals as goal

pub returns : goal.returns
returns g c = search (rules, option_once, tag_once, maybe_once, boxed_once)
