use Rattle.cbor4ii_items.specs.Laws.NumbersBack.{decoded, not_rejected}
use Rattle.cbor4ii_items.proofs.laws.what_is_written_is_decoded.Goals as goal

pub returns-clause-accepted : goal.returns-clause-accepted
returns-clause-accepted g c bytes rest v w cost old new =
    decoded _ _ g.met.T.Decodable.lawful.one bytes rest v w cost old new

pub returns-clause-not_rejected : goal.returns-clause-not_rejected
returns-clause-not_rejected g c bytes rest v cost old error =
    not_rejected g.T.Decodable.format.reads bytes rest v cost old error
