use Rattle.std.proofs.Common.{◌↔◌, ◌-◌, drop, map}
use Rattle.cbor4ii_tree.specs.Calls.TotalOrder.{Repeats, item_behind}
use Rattle.cbor4ii_tree.proofs.equal_keys.has_equal_neighbours.Given as goal

abbrev pub invariant-loop-i : goal.invariant-loop-i
invariant-loop-i l =
    Repeats (map item_behind l.keys) ↔ Repeats (map item_behind (drop (l.i - 1) l.keys))
