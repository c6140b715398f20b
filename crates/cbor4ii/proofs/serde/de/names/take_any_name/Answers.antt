use Rattle.std.proofs.Common.{refl}
use Rattle.cbor4ii.proofs.Names.{takes_text, no_name}
use Rattle.cbor4ii.proofs.Promised.{whole}
use Rattle.cbor4ii.proofs.serde.de.names.take_any_name.Goals as goal

pub returns-in-Ok : goal.returns-in-Ok
returns-in-Ok g c =
    takes_text c.as_bytes.result.now c.as_bytes.ensures.value (whole refl refl c.in-Ok.ensures)
    c.place.ensures.which

pub returns-in-Err : goal.returns-in-Err
returns-in-Err g c = rw c.leave.ensures (no_name (whole refl refl c.in-Err.ensures))
