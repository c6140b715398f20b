use Rattle.std.proofs.Common.{subst}
use Rattle.cbor4ii_tree.specs.{Basis.Tree.Pairs, Calls.RawParts.{Agrees, KeepsItem, PairsToCome}}
use Rattle.cbor4ii_tree.specs.Calls.RawParts.{first_value, map_pairs, means_text}
use Rattle.cbor4ii_tree.proofs.raw_items.Keys.{within, text_found}
use Rattle.cbor4ii_tree.proofs.raw.RawValue.get.Goals as goal

pub returns-clause-value : goal.returns-clause-value
returns-clause-value c = λ v steps e.
    let found = subst (λ xs. (ps : Pairs) → PairsToCome ps c.in_ok-pairs.field-0
    → Agrees KeepsItem (first_value (means_text xs) ps) c.find_by_text.result)
    c.as_bytes.ensures.value c.find_by_text.ensures in
    text_found c.args.self.now _ v steps e c.args.key.now (λ t k.
    within PairsToCome (first_value (means_text c.args.key.now)) (map_pairs t) _ _ _
    (c.pairs.ensures t k)
    c.in_ok-pairs.was found)
