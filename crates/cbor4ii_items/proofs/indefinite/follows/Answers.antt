use Rattle.std.proofs.Common.{true, false, rules}
use Rattle.cbor4ii_items.proofs.Passed.{decodes_passed}
use Rattle.cbor4ii_items.proofs.NextByte.{definite_follows, indefinite_follows}
use Rattle.cbor4ii_items.proofs.NextByte.{indefinite_follows_not}
use Rattle.cbor4ii_items.proofs.indefinite.follows.Goals as goal

pub returns-in_err-is_break-in-None-clause-decodes :
    goal.returns-in_err-is_break-in-None-clause-decodes
returns-in_err-is_break-in-None-clause-decodes g c =
    decodes_passed _ c.from_residual.ensures.1 (indefinite_follows_not c.in-None.is
    c.in_err-is_break-in-None.ensures.decodes)

pub returns-then-branch-clause-decodes : goal.returns-then-branch-clause-decodes
returns-then-branch-clause-decodes g c =
    indefinite_follows false c.in-None.is c.if-branch.true c.in_ok-is_break-in-None.ensures.decodes

pub returns-else-branch-clause-decodes : goal.returns-else-branch-clause-decodes
returns-else-branch-clause-decodes g c =
    indefinite_follows true c.in-None.is c.if-branch.false c.in_ok-is_break-in-None.ensures.decodes

pub returns-in-Some-eq0-clause-decodes : goal.returns-in-Some-eq0-clause-decodes
returns-in-Some-eq0-clause-decodes g c = definite_follows false c.in-Some-eq0.is (search rules)

pub returns-in-Some-clause-decodes : goal.returns-in-Some-clause-decodes
returns-in-Some-clause-decodes g c = definite_follows true c.in-Some.is (search rules)
