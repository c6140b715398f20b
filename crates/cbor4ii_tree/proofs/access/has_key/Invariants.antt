use Rattle.std.proofs.Common.{◌↔◌, drop}
use Rattle.cbor4ii_tree.specs.{Calls.Access.HasKey, Basis.View.{view, pairs_view}}
use Rattle.cbor4ii_tree.proofs.access.has_key.Given as goal

abbrev pub invariant-loop-pair : goal.invariant-loop-pair
invariant-loop-pair l =
    HasKey (view l.key) (pairs_view l.pairs)
    ↔ HasKey (view l.key) (pairs_view (drop l.pair-index l.pairs))
