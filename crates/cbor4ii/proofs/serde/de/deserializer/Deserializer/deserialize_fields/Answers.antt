use Rattle.cbor4ii.specs.FieldKey.{labels_by}
use Rattle.cbor4ii.specs.Presence.{made_struct}
use Rattle.cbor4ii.proofs.Making.{from_ok, from_err}
use Rattle.cbor4ii.proofs.serde.de.deserializer.Deserializer.deserialize_fields.Goals as goal

pub returns-in-Ok-clause-promised : goal.returns-in-Ok-clause-promised
returns-in-Ok-clause-promised g c =
    from_ok (made_struct g.K.ReadKey.key (g.V.Places.fields (labels_by g.K.ReadKey.label
    c.args.keys.now))
    (g.P.Presences.made c.args.presences c.args.missing.now)) g.T.From.from_gives c.from.ensures
    c.in-Ok.ensures.promised

pub returns-in-Err-clause-promised : goal.returns-in-Err-clause-promised
returns-in-Err-clause-promised g c =
    from_err (made_struct g.K.ReadKey.key (g.V.Places.fields (labels_by g.K.ReadKey.label
    c.args.keys.now))
    (g.P.Presences.made c.args.presences c.args.missing.now)) g.T.From.from_gives
    c.in-Err.ensures.promised
