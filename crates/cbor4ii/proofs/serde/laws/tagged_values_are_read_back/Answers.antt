use Rattle.cbor4ii.specs.CodecItems.{tagged_back}
use Rattle.cbor4ii.proofs.serde.laws.tagged_values_are_read_back.Goals as goal

pub returns : goal.returns
returns g c number v cost small back =
    tagged_back g.T.Typed.promise.format.reads number (g.T.Serialize.encoding v) v cost small back
