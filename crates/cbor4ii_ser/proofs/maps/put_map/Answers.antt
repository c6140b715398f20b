use Rattle.cbor4ii_ser.proofs.Failing.{from_slot}
use Rattle.cbor4ii_ser.proofs.maps.put_map.Goals as goal

pub returns : goal.returns
returns g c = from_slot _ _ c.put_map_in_turn.ensures.kept c.put_map_in_turn.ensures.writes
