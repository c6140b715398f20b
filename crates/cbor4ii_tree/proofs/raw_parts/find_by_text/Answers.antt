use Rattle.std.proofs.Common.{sym, ◌∙◌}
use Rattle.cbor4ii_tree.proofs.raw_items.Keys.{search_ends, search_finds, search_goes_on}
use Rattle.cbor4ii_tree.proofs.raw_parts.find_by_text.Goals as goal

pub returns-then-means_text : goal.returns-then-means_text
returns-then-means_text c = λ ps p.
    search_finds _ _ _ _ _ c.loop-name.invariant c.next.ensures.steps ps p
    (c.in-Some.name, c.in-Some.value) c.in-Some.is (λ k h.
    sym (c.means_text.ensures k h.loose (c.as_bytes.ensures.content ∙ h.bytes_are)) ∙
    c.if-means_text.true)

pub loop-name-preserved : goal.loop-name-preserved
loop-name-preserved c = λ ps p.
    search_goes_on _ _ _ _ _ c.loop-name.invariant c.next.ensures.steps ps p
    (c.in-Some.name, c.in-Some.value) c.in-Some.is (λ k h.
    sym (c.means_text.ensures k h.loose (c.as_bytes.ensures.content ∙ h.bytes_are)) ∙
    c.if-means_text.false)

pub returns : goal.returns
returns c = λ ps p.
    search_ends _ _ _ _ _ c.loop-name.invariant c.next.ensures.steps ps p c.in_default.is
