use Rattle.std.proofs.Common.{refl}
use Rattle.cbor4ii.proofs.Tags.{tag_found, tag_other, tag_missing}
use Rattle.cbor4ii.proofs.serde.de.tagged.take_tag.Goals as goal

pub returns-then-found-number : goal.returns-then-found-number
returns-then-found-number g c = tag_found c.if-found-number.true c.in-Ok.ensures

pub returns-else-found-number : goal.returns-else-found-number
returns-else-found-number g c = tag_other refl c.if-found-number.false c.in-Ok.ensures

pub returns-in-Err : goal.returns-in-Err
returns-in-Err g c = tag_missing c.in-Err.ensures
