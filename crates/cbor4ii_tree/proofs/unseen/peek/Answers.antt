use Rattle.std.proofs.Common.{arith}
use Rattle.cbor4ii_tree.proofs.skip_calls.Prefixes.{no_byte}
use Rattle.cbor4ii_tree.proofs.unseen.peek.Goals as goal

pub returns-in-Ok-eq0-default-clause-peeks : goal.returns-in-Ok-eq0-default-clause-peeks
returns-in-Ok-eq0-default-clause-peeks g c =
    no_byte (omega arith) c.in-Ok-eq0-default.ensures.offers c.in-Ok-eq0-default.field-0-0-test
