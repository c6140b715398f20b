use Rattle.cbor4ii.specs.Typed.{answer_of}
use Rattle.cbor4ii.proofs.Casing.{form_err, form_then}
use Rattle.cbor4ii.proofs.serde.de.cases.variant_inside.Goals as goal

pub returns-in-Ok : goal.returns-in-Ok
returns-in-Ok g c =
    form_then (g.C.Cases.cases c.args.cases c.args.variants.now) c.in-Ok.form
    c.in-Ok.ensures.decodes (answer_of c.named_variant.result) c.named_variant.ensures

pub returns-in-Err : goal.returns-in-Err
returns-in-Err g c =
    form_err (g.C.Cases.cases c.args.cases c.args.variants.now) c.in-Err.ensures.decodes
