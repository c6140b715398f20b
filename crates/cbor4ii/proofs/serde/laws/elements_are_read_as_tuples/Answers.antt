use Rattle.cbor4ii.specs.Laws.ElementsAlike.{two_alike, three_alike}
use Rattle.cbor4ii.proofs.serde.laws.elements_are_read_as_tuples.Goals as goal

pub returns-clause-pair : goal.returns-clause-pair
returns-clause-pair g c = two_alike g.A.Typed.promise g.B.Typed.promise

pub returns-clause-triple : goal.returns-clause-triple
returns-clause-triple g c = three_alike g.A.Typed.promise g.B.Typed.promise g.C.Typed.promise
