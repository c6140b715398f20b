use Rattle.std.proofs.Common.{rules}
use Rattle.cbor4ii_ser.specs.Laws.OneItem.{field_is_entry, struct_is_item, text_is_item}
use Rattle.cbor4ii_ser.specs.Laws.OneItem.{variant_is_item, tuple_variant_is_item}
use Rattle.cbor4ii_ser.specs.Laws.OneItem.{struct_variant_is_item}
use Rattle.cbor4ii_ser.proofs.laws.structs_and_variants_are_items.Goals as goal

pub returns : goal.returns
returns c = search (rules, field_is_entry, struct_is_item, text_is_item, variant_is_item, tuple_variant_is_item, struct_variant_is_item)
