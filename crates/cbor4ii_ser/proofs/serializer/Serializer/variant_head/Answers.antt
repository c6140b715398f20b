use Rattle.cbor4ii_ser.specs.Laws.Joining.{serializes_both}
use Rattle.cbor4ii_ser.proofs.serializer.Serializer.variant_head.Goals as goal

pub returns : goal.returns
returns g c = serializes_both _ c.in_ok-map_head.ensures.writes c.serialize_str.ensures
