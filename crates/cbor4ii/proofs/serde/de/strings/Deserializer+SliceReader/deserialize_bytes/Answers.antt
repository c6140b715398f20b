use Rattle.std.specs.Cow.{cow_slice_items}
use Rattle.std.specs.Prelude.{codes}
use Rattle.cbor4ii_items.specs.Strings.{string_format}
use Rattle.cbor4ii.proofs.Handed.{unwrapped}
use Rattle.cbor4ii.proofs.serde.de.strings.Deserializer+SliceReader.deserialize_bytes.Goals as goal

pub returns-clause-item : goal.returns-clause-item
returns-clause-item c =
    unwrapped (string_format (codes "bytes") 2) cow_slice_items c.decode.result
    c.unwrapped.result c.unwrapped.ensures c.decode.ensures.decodes
