use Rattle.cbor4ii_tree.specs.Basis.View.{view}
use Rattle.cbor4ii_ser.specs.Laws.ValueItems.{value_is_item}
use Rattle.cbor4ii_ser.proofs.laws.values_are_items.Goals as goal

pub returns : goal.returns
returns c form v = value_is_item form (view v)
