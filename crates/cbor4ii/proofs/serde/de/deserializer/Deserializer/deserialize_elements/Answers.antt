use Rattle.cbor4ii.specs.Elements.{element_before, typed_elements}
use Rattle.cbor4ii.proofs.Making.{from_ok, from_err}
use Rattle.cbor4ii.proofs.serde.de.deserializer.Deserializer.deserialize_elements.Goals as goal

pub returns-in-Ok : goal.returns-in-Ok
returns-in-Ok g c =
    from_ok (typed_elements (element_before g.A.Typed.promise g.B.TypedElements.elements))
    g.T.From.from_gives c.from.ensures c.in-Ok.ensures

pub returns-in-Err : goal.returns-in-Err
returns-in-Err g c =
    from_err (typed_elements (element_before g.A.Typed.promise g.B.TypedElements.elements))
    g.T.From.from_gives c.in-Err.ensures
