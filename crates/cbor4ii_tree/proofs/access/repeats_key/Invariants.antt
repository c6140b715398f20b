use Rattle.std.proofs.Common.{◌↔◌, drop}
use Rattle.cbor4ii_tree.specs.{Calls.Access.HasEqualKeys, Basis.View.pairs_view}
use Rattle.cbor4ii_tree.proofs.access.repeats_key.Given as goal

abbrev pub invariant-loop-i : goal.invariant-loop-i
invariant-loop-i l =
    HasEqualKeys (pairs_view l.pairs) ↔ HasEqualKeys (pairs_view (drop l.i l.pairs))
