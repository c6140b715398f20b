use Rattle.cbor4ii_rw.specs.Reader.{KeepsAllButBudget}
use Rattle.cbor4ii_tree.specs.{Basis.Cost.Budget, Inner.Deeper.Deeper}
use Rattle.cbor4ii_tree.proofs.skip.step.give_back.Given as goal

abbrev pub invariant-loop-left : goal.invariant-loop-left
invariant-loop-left g l = record {
  deeper : (outer : Budget) → Deeper l.depth outer (g.S.Source.view l.fn.reader).budget
      → Deeper l.left outer (g.S.Source.view l.reader).budget;
  others : KeepsAllButBudget (g.S.Source.view l.fn.reader) (g.S.Source.view l.reader);
}

abbrev pub decreases-loop-left : goal.decreases-loop-left
decreases-loop-left g l = l.left
