use Rattle.std.proofs.{Common.{arith, refl, sym, ◌∙◌, w8}, Math.Facts.Fits-lt-pow}
use Rattle.cbor4ii_tree.proofs.skip_calls.Leaves.{shown_bytes, sees_head, sees_content}
use Rattle.cbor4ii_tree.specs.declared.skip.initial.Start.TheVariants as start
use Rattle.cbor4ii_tree.proofs.ahead.wide_head_of.Goals as goal

pub returns-then-argument-rest : goal.returns-then-argument-rest
returns-then-argument-rest c = λ among. sees_head _ _ _ _ (omega arith)
    (shown_bytes _ (λ i. Fits-lt-pow {w = w8} (c.type_inv.rest i))) c.in-Some.ensures.some
    start.Content (sym c.start_of.ensures ∙ c.in-Content.is) refl (λ j e. cc)

pub returns-else-argument-rest : goal.returns-else-argument-rest
returns-else-argument-rest c = λ among. sees_content _ _ _ _ (omega arith)
    (shown_bytes _ (λ i. Fits-lt-pow {w = w8} (c.type_inv.rest i))) c.in-Some.ensures.some
    (sym c.start_of.ensures ∙ c.in-Content.is) (omega arith)

pub returns-in-Items : goal.returns-in-Items
returns-in-Items c = λ among. sees_head _ _ _ _ (omega arith)
    (shown_bytes _ (λ i. Fits-lt-pow {w = w8} (c.type_inv.rest i))) c.in-Some.ensures.some
    start.Items (sym c.start_of.ensures ∙ c.in-Items.is) refl (λ j e. cc)

pub returns-in-Pairs : goal.returns-in-Pairs
returns-in-Pairs c = λ among. rw c.pairs_of.ensures (sees_head _ _ _ _ (omega arith)
    (shown_bytes _ (λ i. Fits-lt-pow {w = w8} (c.type_inv.rest i))) c.in-Some.ensures.some
    start.Pairs (sym c.start_of.ensures ∙ c.in-Pairs.is) refl (λ j e. cc))

pub returns-in-Tag : goal.returns-in-Tag
returns-in-Tag c = λ among. sees_head _ _ _ _ (omega arith)
    (shown_bytes _ (λ i. Fits-lt-pow {w = w8} (c.type_inv.rest i))) c.in-Some.ensures.some
    start.Tag (sym c.start_of.ensures ∙ c.in-Tag.is) refl (λ j e. cc)
