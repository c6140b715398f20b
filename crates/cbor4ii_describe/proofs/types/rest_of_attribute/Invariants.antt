use Rattle.std.proofs.Common.{vec_len}
use Rattle.cbor4ii_describe.specs.Input.{NoLonger}
use Rattle.cbor4ii_describe.proofs.types.rest_of_attribute.Given as goal

abbrev pub invariant-loop-depth : goal.invariant-loop-depth
invariant-loop-depth l = NoLonger l.fn.input l.input

abbrev pub decreases-loop-depth : goal.decreases-loop-depth
decreases-loop-depth l = vec_len l.input.left
