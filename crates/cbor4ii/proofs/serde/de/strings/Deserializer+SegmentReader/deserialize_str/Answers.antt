use Rattle.cbor4ii.proofs.serde.de.strings.Deserializer+SegmentReader.deserialize_str.Goals as goal

pub returns-clause-item : goal.returns-clause-item
returns-clause-item c = rw c.typed.ensures c.decode.ensures.decodes
