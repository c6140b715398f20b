use Rattle.std.proofs.Common.{refl}
use Rattle.cbor4ii_items.specs.Laws.Calls.{of_exact}
use Rattle.cbor4ii.proofs.Parts.{map_ok, map_err}
use Rattle.cbor4ii.proofs.Promised.{promised, out_of_memory}
use Rattle.cbor4ii.proofs.serde.de.maps.BTreeMapDeserialize.deserialize.Goals as goal

pub returns-in-Ok-put_all : goal.returns-in-Ok-put_all
returns-in-Ok-put_all g c =
    promised _ (of_exact (map_ok _ _ _ c.in-Ok-put_all.ensures c.in-Ok.ensures))

pub returns-in-Err : goal.returns-in-Err
returns-in-Err g c = promised _ (map_err _ _ _ c.in-Err.ensures)

pub returns-in-Err-put_all : goal.returns-in-Err-put_all
returns-in-Err-put_all g c = out_of_memory _ refl c.in-Ok.ensures.moves.by
