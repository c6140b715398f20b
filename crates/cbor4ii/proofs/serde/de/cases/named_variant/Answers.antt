use Rattle.cbor4ii.specs.Cases.{reads_named, rejects_named, begins_named}
use Rattle.cbor4ii.specs.FieldKey.{text_key}
use Rattle.cbor4ii.specs.Typed.{answer_of}
use Rattle.cbor4ii.proofs.Named.{key_err, entry_then}
use Rattle.cbor4ii.proofs.Names.{key_taken}
use Rattle.cbor4ii.proofs.serde.de.cases.named_variant.Goals as goal

pub returns-in-Some : goal.returns-in-Some
returns-in-Some g c =
    let h = c.in-Some.ensures in
    let cases = g.C.Cases.cases c.args.cases c.args.variants.now in
    entry_then text_key (reads_named cases c.args.form) (rejects_named cases c.args.form)
    (begins_named cases c.args.form) cases.same cases.owned
    (key_taken h) (answer_of c.take.result)
    (c.take.ensures.decodes h.label h.which)

pub returns-in-None : goal.returns-in-None
returns-in-None g c =
    let cases = g.C.Cases.cases c.args.cases c.args.variants.now in
    rw c.left.ensures (key_err text_key (reads_named cases c.args.form) (rejects_named cases
    c.args.form)
    (begins_named cases c.args.form) cases.same cases.owned c.in-None.ensures)
