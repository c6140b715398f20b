use Rattle.cbor4ii_ser.specs.Laws.OneItem.{canonical_is_item}
use Rattle.cbor4ii_ser.proofs.laws.canonical_items_have_shortest_heads.Goals as goal

pub returns : goal.returns
returns c = canonical_is_item
