use Rattle.std.proofs.Common.{rules}
use Rattle.cbor4ii_tree.proofs.values.Encoding.{view-Array, view-Map, item_count-items_view}
use Rattle.cbor4ii_tree.proofs.values.Encoding.{pair_count-pairs_view}
use Rattle.cbor4ii_tree.proofs.order.head_of.Goals as goal

pub returns-in-Array-clause-parts : goal.returns-in-Array-clause-parts
returns-in-Array-clause-parts c = search (rules, item_count-items_view, view-Array)

pub returns-in-Array-clause-short : goal.returns-in-Array-clause-short
returns-in-Array-clause-short c = search (rules, view-Array, item_count-items_view)

pub returns-in-Map-clause-parts : goal.returns-in-Map-clause-parts
returns-in-Map-clause-parts c = search (rules, pair_count-pairs_view, view-Map)

pub returns-in-Map-clause-short : goal.returns-in-Map-clause-short
returns-in-Map-clause-short c = search (rules, view-Map, pair_count-pairs_view)
