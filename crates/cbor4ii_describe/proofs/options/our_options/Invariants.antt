use Rattle.std.proofs.Common.{vec_len}
use Rattle.cbor4ii_describe.specs.Input.{Shorter}
use Rattle.cbor4ii_describe.proofs.options.our_options.Given as goal

abbrev pub invariant-loop-input : goal.invariant-loop-input
invariant-loop-input l = Shorter l.fn.input l.input

abbrev pub decreases-loop-input : goal.decreases-loop-input
decreases-loop-input l = vec_len l.input.left
