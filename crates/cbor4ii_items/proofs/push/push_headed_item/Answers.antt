use Rattle.cbor4ii_items.specs.Laws.Written.{writes_then}
use Rattle.cbor4ii_items.proofs.push.push_headed_item.Goals as goal

pub returns : goal.returns
returns g c = writes_then c.encode.result c.in_ok-push_head.ensures.writes c.encode.ensures
