use Rattle.std.proofs.Common.{length, ◌≤◌, ◌-◌}
use Rattle.cbor4ii_items.specs.Budget.{CostFits}
use Rattle.cbor4ii_items.specs.Laws.SequenceParts.{Begun}
use Rattle.cbor4ii.proofs.serde.de.runs.take_runs.Given as goal

abbrev pub invariant-loop-alloc : goal.invariant-loop-alloc
invariant-loop-alloc g l =
    Begun g.Q.Sequence.part (length l.parts.items) (g.S.Source.view l.fn.de.reader)
    (g.S.Source.view l.de.reader) l.parts.items
    × (length l.parts.items ≤ l.count)
    × CostFits l.steps (g.S.Source.view l.de.reader).budget

abbrev pub decreases-loop-alloc : goal.decreases-loop-alloc
decreases-loop-alloc g l = l.count - length l.parts.items
