use Rattle.std.proofs.Common.{◌+◌, ◌≤◌}
use Rattle.cbor4ii_items.specs.Moves.{Kept}
use Rattle.cbor4ii_examples.proofs.Records.{SeenSoFar}
use Rattle.cbor4ii_examples.proofs.by_hand.decode_record.Given as goal

abbrev pub invariant-loop-name : goal.invariant-loop-name
invariant-loop-name g l = record {
  kept : Kept (g.S.Source.view l.fn.reader) (g.S.Source.view l.reader);
  seen : SeenSoFar (g.S.Source.view l.initial.reader) (g.S.Source.view l.reader)
      (record { id = l.id; name = l.name });
  within : (g.S.Source.view l.reader).bound + 1 ≤ (g.S.Source.view l.fn.reader).bound;
}

abbrev pub decreases-loop-name : goal.decreases-loop-name
decreases-loop-name g l = (g.S.Source.view l.reader).bound
