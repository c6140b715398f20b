use Rattle.std.proofs.Common.{drop}
use Rattle.std.specs.declared.cmp.Ordering.{Ordering}
use Rattle.cbor4ii_items.specs.SequenceBytes.{items_bytes}
use Rattle.cbor4ii_tree.specs.{Calls.TotalOrder.{value_numbers, pair_numbers}, Calls.Order.Compares}
use Rattle.cbor4ii_tree.proofs.total_order.+total.Given as goal

-- how the rest compares is how all compares
abbrev pub invariant-cmp_items-loop-i : goal.invariant-cmp_items-loop-i
invariant-cmp_items-loop-i l = (r : Ordering)
    → Compares r (items_bytes value_numbers (drop l.i l.a))
    (items_bytes value_numbers (drop l.i l.b))
    → Compares r (items_bytes value_numbers l.a) (items_bytes value_numbers l.b)

abbrev pub invariant-cmp_pairs-loop-i : goal.invariant-cmp_pairs-loop-i
invariant-cmp_pairs-loop-i l = (r : Ordering)
    → Compares r (items_bytes pair_numbers (drop l.i l.a))
    (items_bytes pair_numbers (drop l.i l.b))
    → Compares r (items_bytes pair_numbers l.a) (items_bytes pair_numbers l.b)
