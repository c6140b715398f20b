use Rattle.std.proofs.Common.{arith}
use Rattle.cbor4ii_items.specs.Laws.Running.{look_shows}
use Rattle.cbor4ii_items.specs.Laws.Contents.{IsBytes-from, takes_prefix}
use Rattle.cbor4ii_items.proofs.strings.definite.take_shown.Goals as goal

pub returns-else-is_err-clause-taken : goal.returns-else-is_err-clause-taken
returns-else-is_err-clause-taken g c =
    takes_prefix (look_shows _ _ _ _ c.in-Some.is c.look.follows.holds-at-none)
    c.in-Some.ensures.prefix
    (omega (arith, c.if-count-eq0.false)) (omega (arith, c.min-count.ensures))
    (omega (arith, c.min-count.ensures))
    (IsBytes-from _ c.type_inv.content)
    (rw c.if-is_err.ensures.negation at c.extend_from_slice.ensures.items) c.advance.ensures
