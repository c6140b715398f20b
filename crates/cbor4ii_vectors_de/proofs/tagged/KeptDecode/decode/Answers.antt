use Rattle.std.proofs.Common.{refl}
use Rattle.std.specs.Prelude.{codes}
use Rattle.cbor4ii_items.specs.Numbers.{argument_format}
use Rattle.cbor4ii_items.specs.Laws.Calls.{by_ok, by_err}
use Rattle.cbor4ii_vectors_de.proofs.tagged.KeptDecode.decode.Goals as goal

pub returns-in-Ok : goal.returns-in-Ok
returns-in-Ok g c = by_ok (λ k. k.0) (argument_format (codes "u64") 0 8) refl c.in-Ok.ensures

pub returns-in-Err : goal.returns-in-Err
returns-in-Err g c = by_err (λ k. k.0) (argument_format (codes "u64") 0 8) c.in-Err.ensures
