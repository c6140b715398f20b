use Rattle.std.proofs.Common.{◌≡◌, drop}
use Rattle.cbor4ii_tree.specs.{Calls.Access.find_text, Basis.View.pairs_view}
use Rattle.cbor4ii_tree.proofs.access.find.Given as goal

abbrev pub invariant-loop-pair : goal.invariant-loop-pair
invariant-loop-pair l =
    find_text l.key (pairs_view l.pairs)
    ≡ find_text l.key (pairs_view (drop l.pair-index l.pairs))
