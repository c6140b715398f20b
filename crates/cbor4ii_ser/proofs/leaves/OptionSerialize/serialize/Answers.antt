use Rattle.cbor4ii_ser.proofs.leaves.OptionSerialize.serialize.Goals as goal

pub returns-in-Some : goal.returns-in-Some
returns-in-Some g c = rw c.in-Some.is c.serialize_some.ensures
