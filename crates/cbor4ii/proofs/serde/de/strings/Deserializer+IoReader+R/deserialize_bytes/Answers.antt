use Rattle.std.proofs.Common.{refl}
use Rattle.std.specs.Cow.{cow_slice_items, IsOwnedSlice}
use Rattle.std.specs.Prelude.{codes}
use Rattle.cbor4ii_items.specs.Cow.{cow_bytes}
use Rattle.cbor4ii_items.specs.Strings.{string_format}
use Rattle.cbor4ii.proofs.Handed.{copied}
use Rattle.cbor4ii.proofs.serde.de.strings.Deserializer+IoReader+R.deserialize_bytes.Goals as goal

pub returns-clause-item : goal.returns-clause-item
returns-clause-item g c =
    copied (string_format (codes "bytes") 2) cow_bytes cow_slice_items IsOwnedSlice refl
    (λ w. (record { 0 = w }, refl)) c.take_item-found.result c.copied_bytes.result
    c.copied_bytes.ensures c.take_item-found.ensures
