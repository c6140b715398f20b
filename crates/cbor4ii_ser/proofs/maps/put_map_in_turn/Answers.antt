use Rattle.cbor4ii_ser.proofs.Pushing.{pushes_then}
use Rattle.cbor4ii_ser.proofs.maps.put_map_in_turn.Goals as goal

pub returns : goal.returns
returns g c =
    rw (← c.len.ensures.len)
    (pushes_then _ _ c.in_ok-push_parts_head.ensures c.put_entries_in_turn.ensures)
