use Rattle.cbor4ii_ser.specs.Laws.Joining.{serializes_then, serializes_out}
use Rattle.cbor4ii_ser.proofs.tagged.put_tagged_apart.Goals as goal

pub returns-in_err-tag_head : goal.returns-in_err-tag_head
returns-in_err-tag_head g c = serializes_out _ c.from_residual.ensures.1 c.in_err-tag_head.ensures

pub returns : goal.returns
returns g c = serializes_then _ _ c.serialize.result c.in_ok-tag_head.ensures c.serialize.ensures
