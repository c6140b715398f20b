use Rattle.std.proofs.Common.{rules}
use Rattle.cbor4ii_ser.specs.Laws.OneItem.{option_is_item}
use Rattle.cbor4ii_ser.proofs.laws.wrapped_values_are_items.Goals as goal

pub returns : goal.returns
returns g c = search (rules, option_is_item)
