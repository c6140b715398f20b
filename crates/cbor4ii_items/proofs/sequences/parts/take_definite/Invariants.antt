use Rattle.cbor4ii_items.specs.Laws.SequenceParts.{Begun}
use Rattle.cbor4ii_items.proofs.sequences.parts.take_definite.Given as goal

abbrev pub invariant-loop-i : goal.invariant-loop-i
invariant-loop-i g l =
    Begun g.Q.Sequence.part l.i (g.S.Source.view l.fn.reader) (g.S.Source.view l.reader)
    l.parts.items
