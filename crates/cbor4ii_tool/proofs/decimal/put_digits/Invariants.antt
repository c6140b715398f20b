use Rattle.std.proofs.Common.{◌≡◌, ◌+◌, ◌≤◌, ◌++◌, length, drop}
use Rattle.std.specs.Fmt.{decimal}
use Rattle.cbor4ii_tool.proofs.decimal.put_digits.Given as goal

abbrev pub invariant-loop-left : goal.invariant-loop-left
invariant-loop-left l = record {
  room : length (decimal l.left) ≤ l.start;
  inside : l.start ≤ 20;
  long : length l.line ≡ 21;
  put : l.start + length (decimal l.number) ≡ 20 + length (decimal l.left);
  digits : decimal l.left ++ drop l.start l.line ≡ decimal l.number ++ drop 20 l.fn.line;
}

abbrev pub decreases-loop-left : goal.decreases-loop-left
decreases-loop-left l = l.left
