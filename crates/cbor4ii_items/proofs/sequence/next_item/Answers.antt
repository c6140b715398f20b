use Rattle.std.proofs.Common.{rules}
use Rattle.cbor4ii_items.proofs.Passed.{decodes_passed}
use Rattle.cbor4ii_items.specs.Laws.ItemOrEnd.{end_fails, item_fails, item_is_next, none_at_end}
use Rattle.cbor4ii_items.specs.Laws.ItemOrEnd.{none_is_next}
use Rattle.cbor4ii_items.proofs.sequence.next_item.Goals as goal

pub returns-in_err-is_at_end-clause-decodes : goal.returns-in_err-is_at_end-clause-decodes
returns-in_err-is_at_end-clause-decodes g c = search (rules, decodes_passed, end_fails)

pub returns-then-branch-clause-decodes : goal.returns-then-branch-clause-decodes
returns-then-branch-clause-decodes g c =
    none_is_next g.T.Decodable.format (rw c.if-branch.true at c.in_ok-is_at_end.ensures.runs)

pub returns-then-branch-clause-end : goal.returns-then-branch-clause-end
returns-then-branch-clause-end g c =
    none_at_end (rw c.if-branch.true at c.in_ok-is_at_end.ensures.runs)

pub returns-in-Ok-clause-decodes : goal.returns-in-Ok-clause-decodes
returns-in-Ok-clause-decodes g c =
    item_is_next g.T.Decodable.format (rw c.if-branch.false at c.in_ok-is_at_end.ensures.runs)
    c.in-Ok.ensures

pub returns-in-Err-clause-decodes : goal.returns-in-Err-clause-decodes
returns-in-Err-clause-decodes g c =
    item_fails g.T.Decodable.format (rw c.if-branch.false at c.in_ok-is_at_end.ensures.runs)
    c.in-Err.ensures
