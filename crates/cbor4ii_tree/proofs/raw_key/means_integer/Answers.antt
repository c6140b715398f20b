use Rattle.std.proofs.Common.{arith, sym, ◌∙◌}
use Rattle.cbor4ii_tree.proofs.raw_items.Keys.{integer_below, integer_negative, integer_open}
use Rattle.cbor4ii_tree.proofs.raw_items.Keys.{integer_other, integer_unsigned, negative_is}
use Rattle.cbor4ii_tree.proofs.raw_items.Keys.{test_false, unsigned_is, whole_head, whole_some}
use Rattle.cbor4ii_tree.proofs.raw_key.means_integer.Goals as goal

pub returns-in_default : goal.returns-in_default
returns-in_default c = λ t l e.
    absurd (whole_some t _ _ l e c.split_head.ensures.head c.in_default.is)

pub returns-in_default-argument : goal.returns-in_default-argument
returns-in_default-argument c = λ t l e.
    let h = whole_head t _ _ _ l e c.split_head.ensures.head c.in-Some.is in
    sym (integer_open _ t (sym h.1 ∙ c.in_default-argument.is))

pub returns-then-head-eq-UNSIGNED : goal.returns-then-head-eq-UNSIGNED
returns-then-head-eq-UNSIGNED c = λ t l e.
    let h = whole_head t _ _ _ l e c.split_head.ensures.head c.in-Some.is in
    let m = sym h.0 ∙ c.if-head-eq-UNSIGNED.true in
    let a = sym h.1 ∙ c.in-Some-argument.is in
    unsigned_is _ _ (integer_below t _ l (omega arith) a) c.ranges.number
    ∙ sym (integer_unsigned _ t _ m a)

pub returns-then-head-eq-NEGATIVE : goal.returns-then-head-eq-NEGATIVE
returns-then-head-eq-NEGATIVE c = λ t l e.
    let h = whole_head t _ _ _ l e c.split_head.ensures.head c.in-Some.is in
    let m = sym h.0 ∙ c.if-head-eq-NEGATIVE.true in
    let a = sym h.1 ∙ c.in-Some-argument.is in
    negative_is _ _ (integer_below t _ l (omega arith) a) c.ranges.number
    ∙ sym (integer_negative _ t _ m a)

pub returns-else-head-eq-NEGATIVE : goal.returns-else-head-eq-NEGATIVE
returns-else-head-eq-NEGATIVE c = λ t l e.
    let h = whole_head t _ _ _ l e c.split_head.ensures.head c.in-Some.is in
    test_false _ _ c.if-head-eq-NEGATIVE.false
    ∙ sym (integer_other _ t (λ m. c.if-head-eq-UNSIGNED.false (h.0 ∙ m))
    (λ m. c.if-head-eq-NEGATIVE.false (h.0 ∙ m)))
