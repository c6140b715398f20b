use Rattle.cbor4ii.specs.Laws.Backs.{null_read_back}
use Rattle.cbor4ii.proofs.serde.laws.null_is_read_as_none.Goals as goal

pub returns : goal.returns
returns g c v null = null_read_back g.T.Typed.promise.format.reads (g.T.Serialize.encoding v) null
