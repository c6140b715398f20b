use Rattle.std.proofs.Common.{IsTrue, false}
use Rattle.cbor4ii_items.specs.Laws.Running.{runs_byte}
use Rattle.cbor4ii_items.specs.Laws.ReaderFails.{runs_break}
use Rattle.cbor4ii_items.proofs.indefinite.take_break.Goals as goal

pub returns-then-byte : goal.returns-then-byte
returns-then-byte g c = record {
  runs =
      runs_break c.if-byte.true
      (runs_byte c.in_ok-byte.ensures.runs c.in_ok-byte.ensures.byte c.advance.ensures);
  memory = tt;
  failed = λ (f : IsTrue false). absurd (cc);
}
