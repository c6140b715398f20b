use Rattle.std.proofs.Common.{◌≡◌, drop}
use Rattle.cbor4ii_tree.specs.{Calls.Access.find_value, Basis.View.{view, pairs_view}}
use Rattle.cbor4ii_tree.proofs.access.find_value.Given as goal

abbrev pub invariant-loop-found : goal.invariant-loop-found
invariant-loop-found l =
    find_value (view l.key) (pairs_view l.pairs)
    ≡ find_value (view l.key) (pairs_view (drop l.found-index l.pairs))
