use Rattle.std.proofs.{Common.{arith, w8}, Math.Facts.Fits-lt-pow}
use Rattle.cbor4ii_items.specs.Laws.Contents.{first_bytes}
use Rattle.cbor4ii_tree.proofs.ahead.ahead_of.Goals as goal

pub returns-then-count-gt0 : goal.returns-then-count-gt0
returns-then-count-gt0 c = record {
  some = omega arith;
  allowed = c.run_of-count.ensures.few;
  begins = c.run_of-count.ensures.run;
  bytes = first_bytes _ _ (λ i. Fits-lt-pow {w = w8} (c.type_inv.shown i));
}
