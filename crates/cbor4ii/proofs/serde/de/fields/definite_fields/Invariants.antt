use Rattle.cbor4ii.specs.FieldKey.{labels_by}
use Rattle.cbor4ii.proofs.Filling.{Definite}
use Rattle.cbor4ii.proofs.serde.de.fields.definite_fields.Given as goal

abbrev pub invariant-loop-i : goal.invariant-loop-i
invariant-loop-i g l =
    Definite g.K.ReadKey.key (g.V.Places.fields (labels_by g.K.ReadKey.label l.fn.keys)) l.i
    (g.S.Source.view l.fn.de.reader) (g.S.Source.view l.de.reader) l.fn.values l.values
