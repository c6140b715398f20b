use Rattle.std.proofs.Common.{rules}
use Rattle.cbor4ii_ser.specs.Laws.OneItem.{text_is_item, owned_text_is_item, character_is_item}
use Rattle.cbor4ii_ser.specs.Laws.OneItem.{bytes_are_item}
use Rattle.cbor4ii_ser.proofs.laws.strings_are_items.Goals as goal

pub returns : goal.returns
returns c = search (rules, character_is_item, text_is_item, owned_text_is_item, bytes_are_item)
