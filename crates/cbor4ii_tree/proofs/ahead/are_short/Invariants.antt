use Rattle.std.proofs.Common.{◌≡◌, ◌<◌, ℕ, get_or, IsTrue}
use Rattle.cbor4ii_tree.specs.Inner.Ahead.{leaf_bytes}
use Rattle.cbor4ii_tree.proofs.ahead.are_short.Given as goal

abbrev pub invariant-loop-byte : goal.invariant-loop-byte
invariant-loop-byte l =
    IsTrue l.all → (i : ℕ) → i < l.byte-index → leaf_bytes (get_or l.bytes i 0) ≡ 1
