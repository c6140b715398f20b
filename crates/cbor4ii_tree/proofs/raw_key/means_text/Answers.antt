use Rattle.std.proofs.Common.{ap, sym, ◌∙◌, rules}
use Rattle.cbor4ii_tree.specs.Calls.ItemEquality.{text_eq}
use Rattle.cbor4ii_tree.proofs.raw_items.Keys.{text_in_chunks, text_other, text_sized, whole_head}
use Rattle.cbor4ii_tree.proofs.raw_items.Keys.{pointwise_is, whole_some}
use Rattle.cbor4ii_tree.proofs.raw_key.means_text.Goals as goal

pub returns-in_default : goal.returns-in_default
returns-in_default c = λ t l e.
    absurd (whole_some t _ _ l e c.split_head.ensures.head c.in_default.is)

pub returns-then-head-ne-STRING : goal.returns-then-head-ne-STRING
returns-then-head-ne-STRING c = search (rules, whole_head, text_other)

pub returns-in-Some-argument : goal.returns-in-Some-argument
returns-in-Some-argument c = λ t l e.
    let h = whole_head t _ _ _ l e c.split_head.ensures.head c.in-Some.is in
    c.eq.ensures ∙ (pointwise_is c.in-Some.head.rest.now c.args.text.now
    ∙ (ap (λ z. text_eq z c.args.text.now) h.2
    ∙ sym (text_sized _ t _ (sym h.0 ∙ c.if-head-ne-STRING.false)
    (sym h.1 ∙ c.in-Some-argument.is))))

pub returns-in-None : goal.returns-in-None
returns-in-None c = λ t l e.
    let h = whole_head t _ _ _ l e c.split_head.ensures.head c.in-Some.is in
    let d = text_in_chunks c.args.text.now t l (sym h.0 ∙ c.if-head-ne-STRING.false)
    (sym h.1 ∙ c.in-None.is) in
    c.chunks_mean.ensures d.chunks d.loose (h.2 ∙ d.content) ∙ sym d.means
