use Rattle.std.proofs.Common.{refl}
use Rattle.std.specs.Prelude.{codes}
use Rattle.cbor4ii_items.specs.Cow.{cow_bytes}
use Rattle.cbor4ii_items.specs.Strings.{ReadsAs, RejectsString}
use Rattle.cbor4ii.proofs.Unlending.{copy_rejected}
use Rattle.cbor4ii.proofs.serde.de.borrowed.BytesRefSliceU8DeserializeIoReader.deserialize.Goals as goal

pub returns-clause-item : goal.returns-clause-item
returns-clause-item g c =
    let d = c.deserialize-found.ensures.item in
    copy_rejected (codes "bytes") (ReadsAs 2 cow_bytes) (RejectsString (codes "bytes") 2) _
    c.deserialize-found.result
    c.reject_copy.result _ _ refl c.reject_copy.ensures d.moves d.sound (d.begins refl)
