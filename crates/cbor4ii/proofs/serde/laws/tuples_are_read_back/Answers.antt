use Rattle.std.proofs.Common.{rules}
use Rattle.cbor4ii.specs.Laws.Backs.{pair_read_back, triple_read_back}
use Rattle.cbor4ii.proofs.serde.laws.tuples_are_read_back.Goals as goal

pub returns-clause-pair : goal.returns-clause-pair
returns-clause-pair g c p first second = search (rules, pair_read_back)

pub returns-clause-triple : goal.returns-clause-triple
returns-clause-triple g c p first second third = search (rules, triple_read_back)
