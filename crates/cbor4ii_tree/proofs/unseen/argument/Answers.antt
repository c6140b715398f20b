use Rattle.std.proofs.Common.{refl, sym, ◌∙◌, ap}
use Rattle.cbor4ii_tree.specs.declared.skip.initial.Additional.TheVariants.{Wide}
use Rattle.cbor4ii_tree.proofs.skip_calls.{Doing.{does_ok, reached_start}, Leaves.first_argument}
use Rattle.cbor4ii_tree.proofs.unseen.argument.Goals as goal

pub returns-in-Wide-eq0-clause-does : goal.returns-in-Wide-eq0-clause-does
returns-in-Wide-eq0-clause-does g c =
    does_ok _ _ (reached_start _ _ (λ xs. first_argument _ c.args.first xs refl
    (ap Wide (sym c.in-Wide-eq0.field-0-test) ∙ (sym c.in-Wide-eq0.is ∙ c.parse_info.ensures))))
