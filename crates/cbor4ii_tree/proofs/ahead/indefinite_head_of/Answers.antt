use Rattle.std.proofs.Common.{arith, refl, sym, ◌∙◌}
use Rattle.cbor4ii_tree.proofs.skip_calls.Leaves.{sees_alone}
use Rattle.cbor4ii_tree.specs.declared.skip.initial.Start.TheVariants as start
use Rattle.cbor4ii_tree.proofs.ahead.indefinite_head_of.Goals as goal

pub returns-in-Indefinite : goal.returns-in-Indefinite
returns-in-Indefinite c = λ among rest. sees_alone c.args.first rest (omega arith) start.Indefinite
    (sym c.start_of.ensures ∙ c.in-Indefinite.is) refl tt

pub returns-in-PairsToBreak : goal.returns-in-PairsToBreak
returns-in-PairsToBreak c = λ among rest. sees_alone c.args.first rest (omega arith)
    start.PairsToBreak (sym c.start_of.ensures ∙ c.in-PairsToBreak.is) refl tt
