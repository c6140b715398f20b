use Rattle.std.proofs.Common.{Ok, Err, refl}
use Rattle.std.specs.Cow.{cow_slice_items}
use Rattle.std.specs.Prelude.{codes}
use Rattle.cbor4ii_items.specs.Cow.{cow_bytes, IsOwnedBytes}
use Rattle.cbor4ii_items.specs.Strings.{string_format}
use Rattle.cbor4ii.proofs.Handed.{copied}
use Rattle.cbor4ii.proofs.IfKnown.{decoded}
use Rattle.cbor4ii.proofs.serde.de.cow.BytesCowSliceU8GlobalDeserializeIoReader.deserialize.Goals as goal

pub returns-in-Ok-clause-item : goal.returns-in-Ok-clause-item
returns-in-Ok-clause-item g c =
    decoded _ (copied (string_format (codes "bytes") 2) cow_slice_items cow_bytes IsOwnedBytes
    refl
    (λ w. (w.0, refl)) (Ok c.in-Ok.content) (Ok (record { 0 = c.in-Ok.content }))
    (record { handed = (c.in-Ok.ensures.copied, refl); rejected = tt }) c.in-Ok.ensures.item)

pub returns-in-Err-clause-item : goal.returns-in-Err-clause-item
returns-in-Err-clause-item g c =
    decoded _ (copied (string_format (codes "bytes") 2) cow_slice_items cow_bytes IsOwnedBytes
    refl
    (λ w. (w.0, refl)) (Err c.in-Err.error) (Err c.in-Err.error)
    (record { handed = tt; rejected = refl }) c.in-Err.ensures.item)
