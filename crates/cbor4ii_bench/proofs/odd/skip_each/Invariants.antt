use Rattle.cbor4ii_bench.proofs.odd.skip_each.Given as goal

abbrev pub decreases-loop-left : goal.decreases-loop-left
decreases-loop-left l = l.left
