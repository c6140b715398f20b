use mir.Syntax.{w128}
use Rattle.std.proofs.{Common.subst, lemmas.Int.to_z-of_z}
use Rattle.cbor4ii_tree.specs.{Basis.Tree.Pairs, Calls.RawParts.{Agrees, KeepsItem, PairsToCome}}
use Rattle.cbor4ii_tree.specs.Calls.RawParts.{first_value, map_pairs, means_integer}
use Rattle.cbor4ii_tree.proofs.raw_items.Keys.{within, integer_found}
use Rattle.cbor4ii_tree.proofs.raw.RawValue.get_integer.Goals as goal

pub returns-clause-value : goal.returns-clause-value
returns-clause-value c = λ v steps e.
    let found = subst (λ z. (ps : Pairs) → PairsToCome ps c.in_ok-pairs.field-0
    → Agrees KeepsItem (first_value (means_integer z) ps) c.find_by_integer.result)
    (to_z-of_z w128 c.args.key c.ranges.key) c.find_by_integer.ensures in
    integer_found c.args.self.now _ v steps e c.args.key (λ t k.
    within PairsToCome (first_value (means_integer c.args.key)) (map_pairs t) _ _ _
    (c.pairs.ensures t k)
    c.in_ok-pairs.was found)
