use Rattle.cbor4ii.proofs.Making.{from_ok, from_err}
use Rattle.cbor4ii.proofs.serde.de.deserializer.Deserializer.deserialize_from.Goals as goal

pub returns-in-Ok : goal.returns-in-Ok
returns-in-Ok g c = from_ok g.V.Typed.promise g.T.From.from_gives c.from.ensures c.in-Ok.ensures

pub returns-in-Err : goal.returns-in-Err
returns-in-Err g c = from_err g.V.Typed.promise g.T.From.from_gives c.in-Err.ensures
