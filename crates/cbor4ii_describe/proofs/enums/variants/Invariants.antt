use Rattle.std.proofs.Common.{vec_len}
use Rattle.cbor4ii_describe.specs.Input.{NoLonger}
use Rattle.cbor4ii_describe.proofs.enums.variants.Given as goal

abbrev pub invariant-loop-alloc : goal.invariant-loop-alloc
invariant-loop-alloc l = NoLonger l.fn.input l.input

abbrev pub decreases-loop-alloc : goal.decreases-loop-alloc
decreases-loop-alloc l = vec_len l.input.left
