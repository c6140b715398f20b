use Rattle.std.proofs.Common.{rules}
use Rattle.cbor4ii_ser.specs.Laws.OneItem.{unit_is_item, tuple_is_item}
use Rattle.cbor4ii_ser.proofs.laws.tuples_are_items.Goals as goal

pub returns : goal.returns
returns g c = search (rules, unit_is_item, tuple_is_item)
