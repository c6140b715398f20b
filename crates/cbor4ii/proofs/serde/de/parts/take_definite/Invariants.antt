use Rattle.cbor4ii_items.specs.Laws.SequenceParts.{Begun}
use Rattle.cbor4ii.proofs.serde.de.parts.take_definite.Given as goal

abbrev pub invariant-loop-i : goal.invariant-loop-i
invariant-loop-i g l =
    Begun g.Q.Sequence.part l.i (g.S.Source.view l.fn.de.reader)
    (g.S.Source.view l.de.reader) l.parts.items
