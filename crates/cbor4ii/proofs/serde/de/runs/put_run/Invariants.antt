use Rattle.std.proofs.Common.{length, ◌≤◌, ◌-◌}
use Rattle.cbor4ii.specs.ShownParts.{PutsParts}
use Rattle.cbor4ii.proofs.serde.de.runs.put_run.Given as goal

abbrev pub invariant-loop-part : goal.invariant-loop-part
invariant-loop-part g l =
    PutsParts g.Q.Sequence.part.reads l.shown l.steps l.fn.parts.items l.parts.items l.size
    × (length l.fn.parts.items ≤ l.count → length l.parts.items ≤ l.count)

abbrev pub decreases-loop-part : goal.decreases-loop-part
decreases-loop-part g l = length l.shown - l.size
