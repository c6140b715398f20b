use Rattle.std.proofs.Common.{refl}
use Rattle.cbor4ii_items.specs.Laws.Calls.{by_ok}
use Rattle.cbor4ii_items.proofs.Passed.{by_passed}
use Rattle.cbor4ii_items.proofs.sequences.map.MapVecTuple2Decode.decode.Goals as goal

pub returns-in_err-take_sequence : goal.returns-in_err-take_sequence
returns-in_err-take_sequence g c =
    by_passed (λ m. m.0) _ _ c.from_residual.ensures.1 c.in_err-take_sequence.ensures

pub returns : goal.returns
returns g c = by_ok (λ m. m.0) _ refl c.in_ok-take_sequence.ensures
