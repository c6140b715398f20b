use Rattle.std.proofs.Common.{rules}
use Rattle.cbor4ii_ser.specs.Laws.OneItem.{map_is_item, indefinite_map_is_item}
use Rattle.cbor4ii_ser.specs.Laws.OneItem.{collected_with_length}
use Rattle.cbor4ii_ser.specs.Laws.OneItem.{by_recursion, pair_is_entry}
use Rattle.cbor4ii_ser.proofs.laws.maps_are_items.Goals as goal

pub returns : goal.returns
returns g c = search (rules, map_is_item, by_recursion, indefinite_map_is_item, pair_is_entry, collected_with_length)
