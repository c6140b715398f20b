use Rattle.std.proofs.Common.{vec_len}
use Rattle.cbor4ii_describe.specs.Input.{NoLonger}
use Rattle.cbor4ii_describe.proofs.options.head.Given as goal

abbrev pub invariant-loop-input : goal.invariant-loop-input
invariant-loop-input l = NoLonger l.fn.input l.input

abbrev pub decreases-loop-input : goal.decreases-loop-input
decreases-loop-input l = vec_len l.input.left
