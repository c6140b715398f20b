use Rattle.std.proofs.Common.{arith}
use Rattle.cbor4ii_items.specs.Laws.Contents.{prefix_shown, lends_prefix, prefix_is_of_input}
use Rattle.cbor4ii_items.proofs.strings.lent.lend_content.Goals as goal

pub returns-in-Some-Long-clause-lent : goal.returns-in-Some-Long-clause-lent
returns-in-Some-Long-clause-lent g c =
    lends_prefix (prefix_shown _ _ _ _ _ c.in-Some-Long.is c.in-Some-Long.field-0-is
    c.lend.follows.holds-at-none)
    (rw c.in-Some-Long.field-0-is at c.in-Some-Long.ensures.prefix)
    (omega (arith, c.if-shown-want.false)) c.prefix.ensures.bytes c.prefix.ensures.value
    c.advance.ensures

pub returns-in-Some-Long-clause-place : goal.returns-in-Some-Long-clause-place
returns-in-Some-Long-clause-place g c =
    prefix_is_of_input (prefix_shown _ _ _ _ _ c.in-Some-Long.is c.in-Some-Long.field-0-is
    c.lend.follows.holds-at-none)
    (rw c.in-Some-Long.field-0-is at c.in-Some-Long.ensures.prefix)
    (omega (arith, c.if-shown-want.false))
    (rw c.in-Some-Long.field-0-is at c.in-Some-Long.ensures.place)
    c.prefix.ensures.place c.prefix.ensures.value c.advance.ensures
