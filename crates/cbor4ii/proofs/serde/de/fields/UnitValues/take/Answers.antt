use Rattle.std.proofs.Common.{true, refl, rules}
use Rattle.cbor4ii.specs.Answered.{typed_value_or_error}
use Rattle.cbor4ii.specs.Structs.{no_more}
use Rattle.cbor4ii.specs.Typed.{answer_of, not_exact}
use Rattle.cbor4ii.proofs.IfKnown.{on_some}
use Rattle.cbor4ii.proofs.Filling.{skips}
use Rattle.cbor4ii.proofs.KeyMemory.{wants_as}
use Rattle.cbor4ii.proofs.serde.de.fields.UnitValues.take.Goals as goal

pub returns-clause-alters : goal.returns-clause-alters
returns-clause-alters g c label which =
    skips no_more label c.args.self.now true
    (answer_of (typed_value_or_error c.skip_value.result _)) refl refl refl c.skip_value.ensures

pub returns-clause-progress : goal.returns-clause-progress
returns-clause-progress g c = on_some _ c.skip_value.result _
    (c.skip_value.ensures.progress refl)

pub returns-clause-memory : goal.returns-clause-memory
returns-clause-memory g c = search (rules, wants_as, not_exact)
