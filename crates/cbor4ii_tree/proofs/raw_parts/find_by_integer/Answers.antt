use Rattle.std.proofs.{Common.{Some, None, sym, subst, ◌∙◌}, lemmas.Int.to_z-of_z}
use mir.Syntax.{w128}
use Rattle.cbor4ii_tree.specs.Calls.RawParts.{Agrees, KeepsItem, first_value, means_integer}
use Rattle.cbor4ii_tree.proofs.raw_items.Keys.{search_ends, search_finds, search_goes_on}
use Rattle.cbor4ii_tree.proofs.raw_parts.find_by_integer.Goals as goal

pub returns-then-means_integer : goal.returns-then-means_integer
returns-then-means_integer c = λ ps p.
    subst (λ z. Agrees KeepsItem (first_value (means_integer z) ps) (Some c.in-Some.value))
    (to_z-of_z w128 c.args.key c.ranges.key)
    (search_finds _ _ _ _ _ c.loop-name.invariant c.next.ensures.steps ps p
    (c.in-Some.name, c.in-Some.value) c.in-Some.is (λ k h.
    sym (c.means_integer.ensures k h.loose (c.as_bytes.ensures.content ∙ h.bytes_are))
    ∙ c.if-means_integer.true))

pub loop-name-preserved : goal.loop-name-preserved
loop-name-preserved c = λ ps p.
    search_goes_on _ _ _ _ _ c.loop-name.invariant c.next.ensures.steps ps p
    (c.in-Some.name, c.in-Some.value) c.in-Some.is (λ k h.
    sym (c.means_integer.ensures k h.loose (c.as_bytes.ensures.content ∙ h.bytes_are))
    ∙ c.if-means_integer.false)

pub returns : goal.returns
returns c = λ ps p.
    subst (λ z. Agrees KeepsItem (first_value (means_integer z) ps) None)
    (to_z-of_z w128 c.args.key c.ranges.key) (search_ends _ _ _ _ _ c.loop-name.invariant
    c.next.ensures.steps ps p c.in_default.is)
