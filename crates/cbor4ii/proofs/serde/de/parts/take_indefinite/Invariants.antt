use Rattle.cbor4ii_items.specs.Laws.SequenceParts.{Opened}
use Rattle.cbor4ii.proofs.serde.de.parts.take_indefinite.Given as goal

abbrev pub invariant-loop-parts : goal.invariant-loop-parts
invariant-loop-parts g l =
    Opened g.Q.Sequence.part (g.S.Source.view l.fn.de.reader) (g.S.Source.view l.de.reader)
    l.parts.items

abbrev pub decreases-loop-parts : goal.decreases-loop-parts
decreases-loop-parts g l = (g.S.Source.view l.de.reader).bound
