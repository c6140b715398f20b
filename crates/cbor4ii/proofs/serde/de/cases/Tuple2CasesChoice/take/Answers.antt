use Rattle.std.proofs.Common.{Ok, Err}
use Rattle.cbor4ii_items.specs.Laws.Steps.{moves_ok, moves_err}
use Rattle.cbor4ii.specs.Typed.{as_core}
use Rattle.cbor4ii.proofs.Casing.{first_then, other_then}
use Rattle.cbor4ii.proofs.serde.de.cases.Tuple2CasesChoice.take.Goals as goal

pub returns-in-Ok-clause-decodes : goal.returns-in-Ok-clause-decodes
returns-in-Ok-clause-decodes g c name which =
    other_then g.C.Case.holding (g.D.Cases.cases c.args.self.1) c.args.form name c.args.names.now
    c.args.at c.in-Some.trailing.now c.in-Some.at c.in-Some.ensures which (Ok c.in-Ok.value)
    (c.in-Ok.ensures.decodes name)

pub returns-in-Some-clause-decodes : goal.returns-in-Some-clause-decodes
returns-in-Some-clause-decodes g c name which =
    other_then g.C.Case.holding (g.D.Cases.cases c.args.self.1) c.args.form name c.args.names.now
    c.args.at c.in-Some.trailing.now c.in-Some.at c.in-Some.ensures which
    (Err (as_core c.in-Err.error)) (c.in-Err.ensures.decodes name)

pub returns-in-Ok-take-clause-decodes : goal.returns-in-Ok-take-clause-decodes
returns-in-Ok-take-clause-decodes g c name which =
    first_then g.C.Case.holding (g.D.Cases.cases c.args.self.1) c.args.form name c.args.names.now
    c.args.at c.in-None.ensures which (Ok c.in-Ok-take.value) c.in-Ok-take.ensures

pub returns-clause-decodes : goal.returns-clause-decodes
returns-clause-decodes g c name which =
    first_then g.C.Case.holding (g.D.Cases.cases c.args.self.1) c.args.form name c.args.names.now
    c.args.at c.in-None.ensures which (Err (as_core c.in-Err-take.error)) c.in-Err-take.ensures

pub returns-in-Ok-clause-moves : goal.returns-in-Ok-clause-moves
returns-in-Ok-clause-moves g c = moves_ok c.in-Ok.ensures.moves

pub returns-in-Some-clause-moves : goal.returns-in-Some-clause-moves
returns-in-Some-clause-moves g c = moves_err c.in-Err.ensures.moves

pub returns-in-Ok-take-clause-moves : goal.returns-in-Ok-take-clause-moves
returns-in-Ok-take-clause-moves g c = moves_ok c.in-Ok-take.ensures.moves

pub returns-clause-moves : goal.returns-clause-moves
returns-clause-moves g c = moves_err c.in-Err-take.ensures.moves
