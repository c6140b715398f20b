use Rattle.cbor4ii.specs.FieldKey.{labels_by}
use Rattle.cbor4ii.proofs.Filling.{Unended}
use Rattle.cbor4ii.proofs.serde.de.fields.indefinite_fields.Given as goal

abbrev pub invariant-loop-alloc : goal.invariant-loop-alloc
invariant-loop-alloc g l =
    Unended g.K.ReadKey.key (g.V.Places.fields (labels_by g.K.ReadKey.label l.fn.keys))
    (g.S.Source.view l.fn.de.reader) (g.S.Source.view l.de.reader) l.fn.values l.values

abbrev pub decreases-loop-alloc : goal.decreases-loop-alloc
decreases-loop-alloc g l = (g.S.Source.view l.de.reader).bound
