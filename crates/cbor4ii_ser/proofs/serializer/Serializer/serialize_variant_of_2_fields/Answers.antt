use Rattle.cbor4ii_ser.specs.Laws.Joining.{serializes_then}
use Rattle.cbor4ii_ser.proofs.Failing.{failed_then}
use Rattle.cbor4ii_ser.proofs.serializer.Serializer.serialize_variant_of_2_fields.Goals as goal

pub returns-in_default : goal.returns-in_default
returns-in_default g c = failed_then _ _ c.in_default.ensures.failed c.in_default.ensures.writes

pub returns : goal.returns
returns g c = serializes_then _ _ c.serialize_2_fields.result c.in-Some.ensures.writes c.serialize_2_fields.ensures
