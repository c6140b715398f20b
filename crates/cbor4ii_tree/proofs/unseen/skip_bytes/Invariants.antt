use Rattle.std.proofs.Common.{◌≡◌, IsTrue}
use Rattle.cbor4ii_tree.proofs.skip_calls.{Doing.Reached, Bytes.Dropped}
use Rattle.cbor4ii_tree.proofs.unseen.skip_bytes.Given as goal

abbrev pub invariant-loop-missing : goal.invariant-loop-missing
invariant-loop-missing g l = record {
  reached : Reached (Dropped l.count l.missing) (g.F.BytesAhead.view l.fn.prefix l.fn.reader)
      (g.F.BytesAhead.view l.prefix l.reader);
  stays : IsTrue g.F.BytesAhead.apart → g.S.Source.view l.reader ≡ g.S.Source.view l.fn.reader;
}

abbrev pub decreases-loop-missing : goal.decreases-loop-missing
decreases-loop-missing g l = l.missing
