use Rattle.std.proofs.Common.{◌∙◌, rules}
use Rattle.cbor4ii_tree.proofs.values.Encoding.{find_text-here, find_text-past}
use Rattle.cbor4ii_tree.proofs.access.find.Goals as goal

pub returns-then-is_text : goal.returns-then-is_text
returns-then-is_text c = search (rules, find_text-here)

pub loop-pair-preserved : goal.loop-pair-preserved
loop-pair-preserved c =
    c.loop-pair.invariant ∙ find_text-past _ _ _ _ c.loop-pair-test.true c.pair-item.is (λ e.
    absurd (cc (c.if-is_text.ensures.1 e)))
