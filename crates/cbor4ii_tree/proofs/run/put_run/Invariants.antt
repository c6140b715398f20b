use Rattle.std.proofs.Common.{◌-◌, ◌*◌, ◌≤◌, ◌≡◌, length, true}
use Rattle.cbor4ii_tree.specs.Inner.LeafRuns.{PutsAfter}
use Rattle.cbor4ii_tree.proofs.run.put_run.Given as goal

abbrev pub invariant-loop-alloc : goal.invariant-loop-alloc
invariant-loop-alloc g l = record {
  puts : PutsAfter (g.A.Encodings.canonical ≡ true) l.size l.shown (g.P.Parts.flat l.fn.parts)
      (g.P.Parts.flat l.parts);
  few : length (g.P.Parts.flat l.parts) ≤ g.P.Parts.width * l.most;
  none : l.size ≡ 0 → g.P.Parts.flat l.parts ≡ g.P.Parts.flat l.fn.parts;
}

abbrev pub decreases-loop-alloc : goal.decreases-loop-alloc
decreases-loop-alloc g l = length l.shown - l.size
