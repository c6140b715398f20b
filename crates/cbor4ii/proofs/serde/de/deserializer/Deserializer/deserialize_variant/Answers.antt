use Rattle.std.proofs.Common.{Ok, Err}
use Rattle.std.specs.Prelude.{codes}
use Rattle.cbor4ii.specs.Cases.{enum_of, cases_inside}
use Rattle.cbor4ii.specs.Typed.{as_core}
use Rattle.cbor4ii.proofs.Making.{from_ok, from_err}
use Rattle.cbor4ii.proofs.Promised.{promised}
use Rattle.cbor4ii.proofs.Steps.{under_if}
use Rattle.cbor4ii.proofs.serde.de.deserializer.Deserializer.deserialize_variant.Goals as goal

pub returns-in-Ok : goal.returns-in-Ok
returns-in-Ok g c =
    let cases = g.C.Cases.cases c.args.cases c.args.variants.now in
    from_ok (enum_of cases) g.T.From.from_gives c.from.ensures
    (promised (enum_of cases) (under_if (cases_inside cases) (codes "enum")
    c.if-not-step_in.ensures.budget c.step_in.ensures.others c.step_out.ensures.others
    (Ok c.in-Ok.value) c.step_out.ensures.budget c.in-Ok.ensures))

pub returns-in-Err : goal.returns-in-Err
returns-in-Err g c =
    let cases = g.C.Cases.cases c.args.cases c.args.variants.now in
    from_err (enum_of cases) g.T.From.from_gives
    (promised (enum_of cases) (under_if (cases_inside cases) (codes "enum")
    c.if-not-step_in.ensures.budget c.step_in.ensures.others c.step_out.ensures.others
    (Err (as_core c.in-Err.error)) c.step_out.ensures.budget c.in-Err.ensures))
