use Rattle.std.proofs.Common.{ap}
use Rattle.std.proofs.lemmas.List.{append-nil}
use Rattle.cbor4ii_ser.specs.Item.{encoded}
use Rattle.cbor4ii_ser.specs.Laws.Joining.{serializes_as}
use Rattle.cbor4ii_ser.proofs.serializer.Serializer.tag_head.Goals as goal

pub returns : goal.returns
returns g c = serializes_as _ (ap encoded (append-nil _)) c.serialize_item.ensures
