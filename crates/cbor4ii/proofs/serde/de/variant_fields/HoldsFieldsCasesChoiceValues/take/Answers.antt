use Rattle.std.proofs.Common.{Ok, Err}
use Rattle.cbor4ii_items.specs.Laws.Steps.{moves_ok, moves_err}
use Rattle.cbor4ii.specs.Cases.{fields_case}
use Rattle.cbor4ii.specs.FieldKey.{labels_by, same_name}
use Rattle.cbor4ii.specs.Typed.{as_core}
use Rattle.cbor4ii.proofs.Casing.{first_then, other_then}
use Rattle.cbor4ii.proofs.serde.de.variant_fields.HoldsFieldsCasesChoiceValues.take.Goals as goal

pub returns-in-Ok-clause-decodes : goal.returns-in-Ok-clause-decodes
returns-in-Ok-clause-decodes g c name which =
    other_then (fields_case (g.V.Places.fields (labels_by same_name c.args.self.0.0.now))
    (g.P.Presences.made c.args.self.1 c.args.self.0.1.now)) (g.D.Cases.cases c.args.self.2)
    c.args.form name c.args.names.now c.args.at c.in-Some.trailing.now c.in-Some.at
    c.in-Some.ensures which (Ok c.in-Ok.value) (c.in-Ok.ensures.decodes name)

pub returns-in-Some-clause-decodes : goal.returns-in-Some-clause-decodes
returns-in-Some-clause-decodes g c name which =
    other_then (fields_case (g.V.Places.fields (labels_by same_name c.args.self.0.0.now))
    (g.P.Presences.made c.args.self.1 c.args.self.0.1.now)) (g.D.Cases.cases c.args.self.2)
    c.args.form name c.args.names.now c.args.at c.in-Some.trailing.now c.in-Some.at
    c.in-Some.ensures which (Err (as_core c.in-Err.error)) (c.in-Err.ensures.decodes name)

pub returns-in-Ok-take_named-clause-decodes : goal.returns-in-Ok-take_named-clause-decodes
returns-in-Ok-take_named-clause-decodes g c name which =
    first_then (fields_case (g.V.Places.fields (labels_by same_name c.args.self.0.0.now))
    (g.P.Presences.made c.args.self.1 c.args.self.0.1.now)) (g.D.Cases.cases c.args.self.2)
    c.args.form name c.args.names.now c.args.at c.in-None.ensures which
    (Ok c.in-Ok-take_named.values) c.in-Ok-take_named.ensures

pub returns-clause-decodes : goal.returns-clause-decodes
returns-clause-decodes g c name which =
    first_then (fields_case (g.V.Places.fields (labels_by same_name c.args.self.0.0.now))
    (g.P.Presences.made c.args.self.1 c.args.self.0.1.now)) (g.D.Cases.cases c.args.self.2)
    c.args.form name c.args.names.now c.args.at c.in-None.ensures which
    (Err (as_core c.in-Err-take_named.error)) c.in-Err-take_named.ensures

pub returns-in-Ok-clause-moves : goal.returns-in-Ok-clause-moves
returns-in-Ok-clause-moves g c = moves_ok c.in-Ok.ensures.moves

pub returns-in-Some-clause-moves : goal.returns-in-Some-clause-moves
returns-in-Some-clause-moves g c = moves_err c.in-Err.ensures.moves

pub returns-in-Ok-take_named-clause-moves : goal.returns-in-Ok-take_named-clause-moves
returns-in-Ok-take_named-clause-moves g c = moves_ok c.in-Ok-take_named.ensures.moves

pub returns-clause-moves : goal.returns-clause-moves
returns-clause-moves g c = moves_err c.in-Err-take_named.ensures.moves
