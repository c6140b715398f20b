use Rattle.std.proofs.Common.{IsTrue, ◌≡◌, ◌<◌, ◌^◌}
use Rattle.cbor4ii_tree.specs.Inner.HeadParts.{TakesNumber}
use Rattle.cbor4ii_tree.proofs.skip_calls.Doing.{Reached}
use Rattle.cbor4ii_tree.proofs.unseen.number.Given as goal

-- some bytes were read
abbrev pub invariant-loop-i : goal.invariant-loop-i
invariant-loop-i g l = record {
  reached : Reached (λ xs ys. TakesNumber l.i xs l.value ys)
      (g.F.BytesAhead.view l.fn.prefix l.fn.reader) (g.F.BytesAhead.view l.prefix l.reader);
  small : l.value < 256 ^ l.i;
  stays : IsTrue g.F.BytesAhead.apart → g.S.Source.view l.reader ≡ g.S.Source.view l.fn.reader;
}
