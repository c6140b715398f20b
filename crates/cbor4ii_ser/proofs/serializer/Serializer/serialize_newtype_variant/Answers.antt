use Rattle.cbor4ii_ser.proofs.Failing.{from_slot}
use Rattle.cbor4ii_ser.proofs.serializer.Serializer.serialize_newtype_variant.Goals as goal

pub returns : goal.returns
returns g c = from_slot _ _ c.put_variant.ensures.kept c.put_variant.ensures.writes
