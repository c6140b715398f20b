use Rattle.std.proofs.Common.{refl}
use Rattle.cbor4ii_tree.proofs.raw_items.Captured.{lends_nothing, lends_short}
use Rattle.cbor4ii_tree.proofs.raw.RawValueLendRaw.lend_prefix.Goals as goal

pub returns-then-prefix-eq0-clause-lent : goal.returns-then-prefix-eq0-clause-lent
returns-then-prefix-eq0-clause-lent g c =
    lends_nothing _ _ _ _ _ c.in-Some-Short.is c.in-Some-Short.field-0-is
    c.lend.follows.holds-at-none c.in-Some-Short.ensures.prefix c.in-Some-Short.ensures.long
    c.if-prefix-eq0.true

pub returns-in-Some-Short-clause-lacks : goal.returns-in-Some-Short-clause-lacks
returns-in-Some-Short-clause-lacks g c =
    lends_short _ _ _ _ _ c.in-Some-Short.is c.in-Some-Short.field-0-is c.lend.follows.holds-at-none
    c.in-Some-Short.ensures.prefix c.in-Some-Short.ensures.long c.if-prefix-eq0.false

pub returns-in-Some-Long-clause-place : goal.returns-in-Some-Long-clause-place
returns-in-Some-Long-clause-place g c =
    λ some. rw c.in-Some-Long.field-0-is at c.in-Some-Long.ensures.place

pub returns-then-prefix-eq0-clause-place : goal.returns-then-prefix-eq0-clause-place
returns-then-prefix-eq0-clause-place g c = λ some. absurd (some refl)
