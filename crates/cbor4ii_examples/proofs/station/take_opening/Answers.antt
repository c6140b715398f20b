use Rattle.std.proofs.Common.{refl, rules}
use Rattle.std.proofs.lemmas.Result.{err_from_is_err_and}
use Rattle.cbor4ii_examples.proofs.Stations.{definite_opening, indefinite_opening, opening_ok}
use Rattle.cbor4ii_examples.proofs.Stations.{opening_err}
use Rattle.cbor4ii_examples.proofs.Stations.{opening_other}
use Rattle.cbor4ii_examples.proofs.station.take_opening.Goals as goal

pub returns-in_err-len : goal.returns-in_err-len
returns-in_err-len g c = search (rules, err_from_is_err_and, opening_err)

pub returns-in-None : goal.returns-in-None
returns-in-None g c =
    let d = c.in_ok-len.ensures in opening_ok d (indefinite_opening c.in-None.is d.sound)

pub returns-in-Some-eq2 : goal.returns-in-Some-eq2
returns-in-Some-eq2 g c =
    let d = c.in_ok-len.ensures in
    opening_ok d (definite_opening c.in-Some-eq2.is c.in-Some-eq2.field-0-test d.sound)

pub returns-in-Some : goal.returns-in-Some
returns-in-Some g c =
    opening_other c.in-Some.count c.in-Some.count-test.1 refl c.new.ensures.small c.new.ensures.big
    c.in-Some.is c.in_ok-len.ensures
