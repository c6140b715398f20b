use Rattle.std.proofs.Common.{◌≡◌, map, take}
use Rattle.cbor4ii_tree.specs.Calls.TotalOrder.{key_of, item_behind}
use Rattle.cbor4ii_tree.proofs.equal_keys.keys_of.Given as goal

abbrev pub invariant-loop-pair : goal.invariant-loop-pair
invariant-loop-pair l =
    map item_behind l.keys.items ≡ map key_of (take l.pair-index l.pairs.items)
