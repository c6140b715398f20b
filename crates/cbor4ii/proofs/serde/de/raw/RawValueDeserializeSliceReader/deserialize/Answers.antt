use Rattle.cbor4ii.proofs.Raws.{lends_item}
use Rattle.cbor4ii.proofs.serde.de.raw.RawValueDeserializeSliceReader.deserialize.Goals as goal

pub returns : goal.returns
returns c = rw c.typed.ensures (lends_item c.decode.ensures.decodes c.decode.ensures.whole
    c.decode.ensures.exact c.decode.ensures.unmoved c.decode.ensures.errs
    c.decode.ensures.place)
