use Rattle.std.proofs.Common.{length}
use Rattle.cbor4ii_tree.proofs.raw_items.Keys.{ChunksLeft}
use Rattle.cbor4ii_tree.proofs.raw_key.chunks_mean.Given as goal

abbrev pub invariant-loop-content : goal.invariant-loop-content
invariant-loop-content l = ChunksLeft l.chunks l.text l.rest l.left

abbrev pub decreases-loop-content : goal.decreases-loop-content
decreases-loop-content l = length l.rest
