use Rattle.std.proofs.Common.{◌≡◌, encode_utf8_all}
use Rattle.cbor4ii_describe.specs.Tokens.{taken_text_of}
use Rattle.cbor4ii_describe.proofs.tokens.cut.Given as goal

abbrev pub invariant-loop-c : goal.invariant-loop-c
invariant-loop-c l = taken_text_of l.cut ≡ encode_utf8_all l.yielded
