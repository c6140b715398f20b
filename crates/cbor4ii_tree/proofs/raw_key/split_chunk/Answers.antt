use Rattle.std.proofs.Common.{refl, arith, sym, ◌∙◌}
use Rattle.cbor4ii_tree.proofs.raw_items.Keys.{content_fits, head_is, head_some, open_chunk}
use Rattle.cbor4ii_tree.proofs.raw_items.Keys.{other_chunk, sized, whole_chunk, no_break}
use Rattle.cbor4ii_tree.proofs.raw_key.split_chunk.Goals as goal

pub returns-in_err-head-clause-item : goal.returns-in_err-head-clause-item
returns-in_err-head-clause-item c = λ t rest l e.
    absurd (head_some t _ rest _ l e c.split_head.ensures.head c.in_err-head.was)

pub returns-then-head-ne-STRING-clause-item : goal.returns-then-head-ne-STRING-clause-item
returns-then-head-ne-STRING-clause-item c = λ t rest l e.
    let h = head_is t _ rest _ _ l e c.split_head.ensures.head c.in_ok-head.was in
    other_chunk t rest _ refl (λ m. c.if-head-ne-STRING.true (h.0 ∙ m))

pub returns-in_err-count-clause-item : goal.returns-in_err-count-clause-item
returns-in_err-count-clause-item c = λ t rest l e.
    let h = head_is t _ rest _ _ l e c.split_head.ensures.head c.in_ok-head.was in
    open_chunk t rest _ c.from_residual-in_err-count.ensures (sym h.1 ∙ c.in_err-count.was)

pub returns-then-count-head-clause-item : goal.returns-then-count-head-clause-item
returns-then-count-head-clause-item c = λ t rest l e.
    let h = head_is t _ rest _ _ l e c.split_head.ensures.head c.in_ok-head.was in
    let s = sized t _ (sym h.0 ∙ c.if-head-ne-STRING.false) (sym h.1 ∙ c.in_ok-count.was) in
    absurd (omega (arith, content_fits t _ _ rest s h.2, c.if-count-head.true))

pub returns-clause-item : goal.returns-clause-item
returns-clause-item c = λ t rest l e.
    let h = head_is t _ rest _ _ l e c.split_head.ensures.head c.in_ok-head.was in
    let s = sized t _ (sym h.0 ∙ c.if-head-ne-STRING.false) (sym h.1 ∙ c.in_ok-count.was) in
    whole_chunk t _ _ rest _ s h.2 c.split_at.ensures.front c.split_at.ensures.back

pub returns-clause-ended : goal.returns-clause-ended
returns-clause-ended c = λ rest e.
    absurd (no_break _ rest _ _ e c.split_head.ensures.head c.in_ok-head.was
    c.if-head-ne-STRING.false)
