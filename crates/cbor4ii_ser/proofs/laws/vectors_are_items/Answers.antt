use Rattle.std.proofs.Common.{rules}
use Rattle.cbor4ii_ser.specs.Laws.OneItem.{array_is_item, indefinite_array_is_item}
use Rattle.cbor4ii_ser.specs.Laws.OneItem.{collected_with_length}
use Rattle.cbor4ii_ser.specs.Laws.OneItem.{by_recursion}
use Rattle.cbor4ii_ser.proofs.laws.vectors_are_items.Goals as goal

pub returns : goal.returns
returns g c = record {
  vector = search (rules, array_is_item, by_recursion);
  up_to_a_break = search (rules, indefinite_array_is_item, by_recursion);
  definite = collected_with_length 4;
}
