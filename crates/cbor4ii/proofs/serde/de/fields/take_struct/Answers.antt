use Rattle.std.proofs.Common.{sym}
use Rattle.cbor4ii.specs.FieldKey.{labels_by}
use Rattle.cbor4ii.specs.Structs.{struct_of}
use Rattle.cbor4ii.proofs.Filling.{struct_ok, struct_err, from_first}
use Rattle.cbor4ii.proofs.Making.{made_ok, made_err, unmade}
use Rattle.cbor4ii.proofs.serde.de.fields.take_struct.Goals as goal

pub returns-in-Ok-values-clause-promised : goal.returns-in-Ok-values-clause-promised
returns-in-Ok-values-clause-promised g c =
    let labels = labels_by g.K.ReadKey.label c.args.keys.now in
    let f = g.V.Places.fields labels in
    made_ok (struct_of (λ v. v) g.K.ReadKey.key f) (g.P.Presences.made c.args.presences
    c.args.missing.now)
    (sym c.in-Ok-values.ensures) (struct_ok (λ v. v) g.K.ReadKey.key f
    (from_first g.K.ReadKey.key f (c.none-values.ensures labels) c.in-Ok.ensures.alters))

pub returns-in-Err-values-clause-promised : goal.returns-in-Err-values-clause-promised
returns-in-Err-values-clause-promised g c =
    let labels = labels_by g.K.ReadKey.label c.args.keys.now in
    let f = g.V.Places.fields labels in
    unmade (struct_of (λ v. v) g.K.ReadKey.key f) (g.P.Presences.made c.args.presences
    c.args.missing.now)
    (g.met.P.Presences.fate c.args.presences c.args.missing.now labels)
    (sym c.in-Err-values.ensures) (struct_ok (λ v. v) g.K.ReadKey.key f
    (from_first g.K.ReadKey.key f (c.none-values.ensures labels) c.in-Ok.ensures.alters))

pub returns-in-Err-clause-promised : goal.returns-in-Err-clause-promised
returns-in-Err-clause-promised g c =
    let f = g.V.Places.fields (labels_by g.K.ReadKey.label c.args.keys.now) in
    made_err (struct_of (λ v. v) g.K.ReadKey.key f) (g.P.Presences.made c.args.presences
    c.args.missing.now)
    (struct_err (λ v. v) g.K.ReadKey.key f c.in-Err.ensures.alters)
