use Rattle.std.proofs.Common.{rules}
use Rattle.cbor4ii.specs.Laws.CharacterOnce.{char_once}
use Rattle.cbor4ii.specs.Laws.ItemsOnce.{value_once, ignored_once}
use Rattle.cbor4ii.specs.Laws.StructsOnce.{skipped_once}
use Rattle.cbor4ii.specs.Laws.TypedOnce.{unit_once}
use Rattle.cbor4ii.proofs.AnyOnce.{any_once}
use Rattle.cbor4ii.proofs.serde.laws.any_items_are_rejected_once.Goals as goal

pub returns : goal.returns
returns c = search (rules, value_once, any_once, ignored_once, skipped_once, unit_once, char_once)
