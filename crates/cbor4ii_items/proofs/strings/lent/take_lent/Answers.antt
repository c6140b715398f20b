use Rattle.std.proofs.Common.{rules}
use Rattle.cbor4ii_items.proofs.Passed.{decodes_passed}
use Rattle.cbor4ii_items.proofs.LentAnswers.{lent_head_err, lent_decodes, lent_place}
use Rattle.cbor4ii_items.proofs.strings.lent.take_lent.Goals as goal

pub returns-in_err-count-clause-decodes : goal.returns-in_err-count-clause-decodes
returns-in_err-count-clause-decodes g c =
    decodes_passed _ c.from_residual.ensures.1 (lent_head_err g.T.Lend.name g.T.Lend.major
    g.T.Lend.is_text g.T.Lend.content (rw (c.name.ensures, c.major.ensures.number) at
    c.in_err-count.ensures.decodes))

pub returns-clause-decodes : goal.returns-clause-decodes
returns-clause-decodes g c =
    lent_decodes _ _ g.T.Lend.name _ g.T.Lend.is_text g.T.Lend.content _ _ _ g.T.Lend.major
    c.lend_from.result c.named.result (rw c.major.ensures.number at c.major.ensures.small)
    (rw c.name-2.ensures at c.named.ensures)
    (rw (c.name.ensures, c.major.ensures.number) at c.in_ok-count.ensures.decodes)
    c.lend_from.ensures.lent c.lend_from.ensures.utf8 c.lend_from.ensures.lacks

pub returns-clause-place : goal.returns-clause-place
returns-clause-place g c = search (rules, lent_place)
