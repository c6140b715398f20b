use Rattle.std.proofs.Common.{vec_len}
use Rattle.cbor4ii_describe.proofs.parse.items.Given as goal

abbrev pub decreases-loop-alloc : goal.decreases-loop-alloc
decreases-loop-alloc l = vec_len l.input.left
