use Rattle.cbor4ii_tree.specs.Calls.RawParts.{array_trees, indexed_tree, ItemsToCome}
use Rattle.cbor4ii_tree.proofs.raw_items.Keys.{within, place_found}
use Rattle.cbor4ii_tree.proofs.raw.RawValue.at.Goals as goal

pub returns-clause-value : goal.returns-clause-value
returns-clause-value c = λ v steps e.
    place_found c.args.self.now _ v steps e c.args.index (λ t k.
    within ItemsToCome (indexed_tree c.args.index) (array_trees t) _ _ _ (c.items.ensures t k)
    c.in_ok-items.was
    c.find_by_place.ensures)
