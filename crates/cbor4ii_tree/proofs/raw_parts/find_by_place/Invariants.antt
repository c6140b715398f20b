use Rattle.cbor4ii_tree.proofs.raw_items.Keys.{Counts}
use Rattle.cbor4ii_tree.proofs.raw_parts.find_by_place.Given as goal

abbrev pub invariant-loop : goal.invariant-loop
invariant-loop l = Counts l.index l.counter l.items l.rest
