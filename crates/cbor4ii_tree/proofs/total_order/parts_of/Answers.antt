use Rattle.std.proofs.Common.{rules}
use Rattle.cbor4ii_tree.proofs.values.Encoding.{view-Array, view-Map, item_count-items_view}
use Rattle.cbor4ii_tree.proofs.values.Encoding.{pair_count-pairs_view}
use Rattle.cbor4ii_tree.proofs.total_order.parts_of.Goals as goal

pub returns-in-Array : goal.returns-in-Array
returns-in-Array c = search (rules, item_count-items_view, view-Array)

pub returns-in-Map : goal.returns-in-Map
returns-in-Map c = search (rules, pair_count-pairs_view, view-Map)
