use Rattle.std.proofs.Common.{refl}
use Rattle.cbor4ii_items.specs.Laws.Running.{kept_alike}
use Rattle.cbor4ii.proofs.serde.de.cases.OtherwiseCasesNever.take.Goals as goal

pub returns-clause-moves : goal.returns-clause-moves
returns-clause-moves g c = record { by = kept_alike _; depth = λ e. refl }
