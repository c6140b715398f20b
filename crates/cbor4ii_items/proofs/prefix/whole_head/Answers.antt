use Rattle.std.proofs.Common.{arith, sym, rules}
use Rattle.cbor4ii_items.proofs.WholeHeads.{whole_in_first, whole_after}
use Rattle.cbor4ii_items.proofs.prefix.whole_head.Goals as goal

pub returns-then-info-lt24 : goal.returns-then-info-lt24
returns-then-info-lt24 c = search (rules, whole_in_first)

pub returns-in-Some : goal.returns-in-Some
returns-in-Some c =
    let byte = c.type_inv.shown 0 in
    rw c.in-Some.ensures.size
    (whole_after _ _ _ _ c.in-len1-up.len_at_least (omega (arith, byte)) c.if-first-major.false
    c.if-info-lt24.false (sym c.if-not-allowed.ensures) c.in-Some.ensures.some)
