use Rattle.std.proofs.Common.{rules}
use Rattle.std.proofs.lemmas.Result.{err_from_is_err_and}
use Rattle.cbor4ii_items.proofs.IndefiniteStrings.{string_chunks}
use Rattle.cbor4ii_items.proofs.CowAnswers.{either_known, known_borrows, joined_owns}
use Rattle.cbor4ii_items.proofs.strings.lent_or_owned.take_either.Goals as goal

pub length-requires : goal.length-requires
length-requires g c = rw c.major.ensures g.met.T.LendOrOwn.small

pub take_chunks-requires : goal.take_chunks-requires
take_chunks-requires g c = rw c.major-in-None.ensures g.met.T.LendOrOwn.small

pub returns-in-Some-clause-takes : goal.returns-in-Some-clause-takes
returns-in-Some-clause-takes g c =
    either_known _ _ _ _ c.lend_or_copy.result (rw (c.name.ensures, c.major.ensures) at
    c.in_ok-count.ensures.runs) c.in-Some.is c.lend_or_copy.ensures.takes

pub returns-in-Some-clause-borrows : goal.returns-in-Some-clause-borrows
returns-in-Some-clause-borrows g c = search (rules, known_borrows)

pub returns-in_err-take_chunks-in-None-clause-takes :
    goal.returns-in_err-take_chunks-in-None-clause-takes
returns-in_err-take_chunks-in-None-clause-takes g c =
    let p = err_from_is_err_and c.from_residual-in_err-take_chunks-in-None.result
    c.from_residual-in_err-take_chunks-in-None.ensures.1 in
    let run = rw (c.name.ensures, c.major.ensures) at c.in_ok-count.ensures.runs in
    let chunks = rw (c.name-in-None.ensures, c.major-in-None.ensures) at
    c.in_err-take_chunks-in-None.ensures in
    rw (p.1, p.2) (record { by = string_chunks _ _ run c.in-None.is chunks })

pub returns-in_ok-take_chunks-in-None-clause-takes :
    goal.returns-in_ok-take_chunks-in-None-clause-takes
returns-in_ok-take_chunks-in-None-clause-takes g c =
    let run = rw (c.name.ensures, c.major.ensures) at c.in_ok-count.ensures.runs in
    let chunks = rw (c.name-in-None.ensures, c.major-in-None.ensures) at
    c.in_ok-take_chunks-in-None.ensures in
    record { by = (_, string_chunks _ _ run c.in-None.is chunks, c.own.ensures.holds) }

pub returns-in_ok-take_chunks-in-None-clause-borrows :
    goal.returns-in_ok-take_chunks-in-None-clause-borrows
returns-in_ok-take_chunks-in-None-clause-borrows g c =
    joined_owns _ _ g.T.LendOrOwn.IsBorrowed g.T.LendOrOwn.IsOwned
    (rw (c.name.ensures, c.major.ensures) at c.in_ok-count.ensures.runs) c.own.result
    c.in-None.is c.own.ensures.owned
