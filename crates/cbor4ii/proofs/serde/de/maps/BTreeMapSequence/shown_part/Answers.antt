use Rattle.cbor4ii.proofs.ShownParts.{pair_shown}
use Rattle.cbor4ii.proofs.serde.de.maps.BTreeMapSequence.shown_part.Goals as goal

pub returns : goal.returns
returns g c = pair_shown c.in_ok-key.ensures c.in_ok-value.ensures
