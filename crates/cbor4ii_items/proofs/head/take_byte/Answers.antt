use Rattle.cbor4ii_items.specs.Laws.Running.{runs_byte}
use Rattle.std.proofs.Common.{arith}
use Rattle.cbor4ii_items.proofs.head.take_byte.Goals as goal

pub returns : goal.returns
returns g c = record {
  runs = runs_byte c.in_ok-byte.ensures.runs c.in_ok-byte.ensures.byte c.advance.ensures;
  memory = tt;
  byte = c.in_ok-byte.ensures.byte;
  progress = omega (arith, c.in_ok-byte.ensures.runs.moves.by.bound, c.advance.ensures.bound);
}
