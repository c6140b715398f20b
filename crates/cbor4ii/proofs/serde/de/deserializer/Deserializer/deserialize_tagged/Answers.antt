use Rattle.cbor4ii.specs.Tagged.{typed_tagged}
use Rattle.cbor4ii.proofs.Making.{from_ok, from_err}
use Rattle.cbor4ii.proofs.Promised.{promised}
use Rattle.cbor4ii.proofs.serde.de.deserializer.Deserializer.deserialize_tagged.Goals as goal

pub returns-in-Ok : goal.returns-in-Ok
returns-in-Ok g c =
    let tagged = typed_tagged c.args.number g.V.Typed.promise in
    from_ok tagged g.T.From.from_gives c.from.ensures (promised tagged c.in-Ok.ensures)

pub returns-in-Err : goal.returns-in-Err
returns-in-Err g c =
    let tagged = typed_tagged c.args.number g.V.Typed.promise in
    from_err tagged g.T.From.from_gives (promised tagged c.in-Err.ensures)
