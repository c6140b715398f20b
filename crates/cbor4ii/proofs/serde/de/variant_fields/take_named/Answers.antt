use Rattle.cbor4ii.specs.FieldKey.{text_key, labels_by, same_name}
use Rattle.cbor4ii.specs.Presence.{made_struct}
use Rattle.cbor4ii.specs.Typed.{answer_of}
use Rattle.cbor4ii.proofs.Casing.{held_then}
use Rattle.cbor4ii.proofs.serde.de.variant_fields.take_named.Goals as goal

pub returns : goal.returns
returns g c =
    held_then (made_struct text_key (g.V.Places.fields (labels_by same_name c.args.words.0.now))
    (g.P.Presences.made c.args.presences c.args.words.1.now)) c.args.form
    c.if-not-form.false (answer_of c.take_struct.result) c.take_struct.ensures.promised
