use Rattle.std.proofs.Common.{rules}
use Rattle.cbor4ii_items.proofs.Passed.{decodes_passed}
use Rattle.cbor4ii_items.proofs.CowAnswers.{either_ok, either_err, other_err}
use Rattle.cbor4ii_items.proofs.strings.lent_or_owned.take_cow.Goals as goal

pub returns-in_err-value-clause-decodes : goal.returns-in_err-value-clause-decodes
returns-in_err-value-clause-decodes g c = search (rules, decodes_passed, either_err)

pub returns-in-Some-clause-decodes : goal.returns-in-Some-clause-decodes
returns-in-Some-clause-decodes g c =
    either_ok g.T.LendOrOwn.name g.T.LendOrOwn.content _ _ g.met.T.LendOrOwn.text
    c.in_ok-value.ensures.progress (rw c.in-Some.is at c.in_ok-value.ensures.takes)

pub returns-in-None-clause-decodes : goal.returns-in-None-clause-decodes
returns-in-None-clause-decodes g c =
    other_err g.T.LendOrOwn.name g.T.LendOrOwn.content _ _ c.name.ensures g.met.T.LendOrOwn.text
    c.in_ok-value.ensures.progress (rw c.in-None.is at c.in_ok-value.ensures.takes)
