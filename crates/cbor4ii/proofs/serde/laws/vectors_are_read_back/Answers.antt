use Rattle.std.proofs.Common.{true, arith}
use Rattle.cbor4ii.specs.Laws.Backs.{sequence_read_back}
use Rattle.cbor4ii.proofs.serde.laws.vectors_are_read_back.Goals as goal

pub returns : goal.returns
returns g c v cost back =
    sequence_read_back g.T.Typed.promise.format.reads g.T.Serialize.encoding cost 4 true v.items
    (omega (arith, v.ok.0, v.ok.1, v.small)) back
