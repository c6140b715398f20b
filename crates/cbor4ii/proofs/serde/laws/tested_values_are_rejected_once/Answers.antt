use Rattle.cbor4ii.specs.Laws.EnumsOnce.{checked_once}
use Rattle.cbor4ii.proofs.serde.laws.tested_values_are_rejected_once.Goals as goal

pub returns : goal.returns
returns g c is once =
    checked_once g.V.Typed.promise g.T.CheckedFrom.words g.T.CheckedFrom.makes
    g.T.CheckedFrom.takes_memory is once g.met.T.CheckedFrom.fate
