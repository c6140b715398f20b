use Rattle.cbor4ii_ser.proofs.Pushing.{pushes_both}
use Rattle.cbor4ii_ser.proofs.slot.push_string.Goals as goal

pub returns : goal.returns
returns g c = pushes_both c.in_ok-push_head.ensures c.push.ensures
