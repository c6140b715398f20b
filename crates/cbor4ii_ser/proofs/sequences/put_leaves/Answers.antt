use Rattle.cbor4ii_ser.proofs.Pushing.{pushes_then}
use Rattle.cbor4ii_ser.proofs.sequences.put_leaves.Goals as goal

pub returns : goal.returns
returns g c = pushes_then _ _ c.in_ok-push_head.ensures c.put_each_leaf.ensures
