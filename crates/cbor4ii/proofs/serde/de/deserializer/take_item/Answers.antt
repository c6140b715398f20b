use Rattle.cbor4ii.proofs.serde.de.deserializer.take_item.Goals as goal

pub returns : goal.returns
returns g c = rw c.typed.ensures c.decode.ensures
