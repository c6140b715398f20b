use Rattle.std.proofs.Common.{◌≡◌, fold, drop}
use Rattle.cbor4ii_tree.specs.{Calls.Hashing.{items_writes, pairs_writes}, Basis.View.items_view}
use Rattle.cbor4ii_tree.specs.Basis.View.{pairs_view}
use Rattle.cbor4ii_tree.proofs.hash.+hash.Given as goal

-- what the rest still writes makes it all
abbrev pub invariant-hash_items-loop-item : goal.invariant-hash_items-loop-item
invariant-hash_items-loop-item g l =
    fold g.H.Hasher.write l.state (items_writes (items_view (drop l.item-index l.items)))
    ≡ fold g.H.Hasher.write l.fn.state (items_writes (items_view l.items))

abbrev pub invariant-hash_pairs-loop-pair : goal.invariant-hash_pairs-loop-pair
invariant-hash_pairs-loop-pair g l =
    fold g.H.Hasher.write l.state (pairs_writes (pairs_view (drop l.pair-index l.pairs)))
    ≡ fold g.H.Hasher.write l.fn.state (pairs_writes (pairs_view l.pairs))
