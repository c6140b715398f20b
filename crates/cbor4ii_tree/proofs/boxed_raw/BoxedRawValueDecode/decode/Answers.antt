use Rattle.cbor4ii_tree.proofs.raw_items.Copied.{copies_item}
use Rattle.cbor4ii_tree.proofs.boxed_raw.BoxedRawValueDecode.decode.Goals as goal

pub returns-clause-copies : goal.returns-clause-copies
returns-clause-copies g c = copies_item _ _ c.copy_lent.result c.copy_lent.ensures.copies
