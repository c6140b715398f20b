use Rattle.std.proofs.Common.{◌≡◌, take}
use Rattle.cbor4ii_tree.specs.Basis.View.{items_view, pairs_view}
use Rattle.cbor4ii_tree.proofs.value.+same.Given as goal

abbrev pub invariant-same_items-loop-i : goal.invariant-same_items-loop-i
invariant-same_items-loop-i l = items_view (take l.i l.a) ≡ items_view (take l.i l.b)

abbrev pub invariant-same_pairs-loop-i : goal.invariant-same_pairs-loop-i
invariant-same_pairs-loop-i l = pairs_view (take l.i l.a) ≡ pairs_view (take l.i l.b)
