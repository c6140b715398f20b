use Rattle.cbor4ii_items.proofs.Passed.{decodes_passed}
use Rattle.cbor4ii_items.specs.Laws.Calls.{of_exact, decodes_exactly}
use Rattle.cbor4ii_items.specs.Laws.Pairs.{pair_ok, key_err, value_err}
use Rattle.cbor4ii_items.proofs.sequences.map.MapVecTuple2Sequence.take_part.Goals as goal

pub returns-in_err-key : goal.returns-in_err-key
returns-in_err-key g c =
    decodes_passed _ c.from_residual.ensures.1 (decodes_exactly (key_err g.K.Decodable.format
    g.V.Decodable.format (of_exact c.in_err-key.ensures)))

pub returns-in_err-value : goal.returns-in_err-value
returns-in_err-value g c =
    decodes_passed _ c.from_residual-in_err-value.ensures.1 (decodes_exactly (value_err
    g.K.Decodable.format g.V.Decodable.format (λ is. g.met.K.Decodable.lawful) c.in_ok-key.ensures
    (of_exact c.in_err-value.ensures)))

pub returns : goal.returns
returns g c =
    pair_ok g.K.Decodable.format g.V.Decodable.format c.in_ok-key.ensures c.in_ok-value.ensures
