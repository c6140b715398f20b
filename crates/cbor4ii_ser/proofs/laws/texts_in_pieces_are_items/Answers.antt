use Rattle.cbor4ii_ser.proofs.TextItems.{text_in_pieces_is_item, short_text_is_item}
use Rattle.cbor4ii_ser.proofs.laws.texts_in_pieces_are_items.Goals as goal

pub returns-clause-text : goal.returns-clause-text
returns-clause-text c = text_in_pieces_is_item

pub returns-clause-short : goal.returns-clause-short
returns-clause-short c = short_text_is_item
