use Rattle.cbor4ii_items.specs.Laws.Written.{writes_then}
use Rattle.cbor4ii_items.proofs.sequences.encode.push_array.Goals as goal

pub returns : goal.returns
returns g c = writes_then c.push_items.result c.in_ok-push_head.ensures.writes c.push_items.ensures
