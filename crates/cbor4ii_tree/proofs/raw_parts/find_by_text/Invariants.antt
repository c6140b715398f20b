use Rattle.cbor4ii_tree.specs.Calls.RawParts.{means_text, pair_bytes_left}
use Rattle.cbor4ii_tree.proofs.raw_items.Keys.{Searches}
use Rattle.cbor4ii_tree.proofs.raw_parts.find_by_text.Given as goal

abbrev pub invariant-loop-name : goal.invariant-loop-name
invariant-loop-name l = Searches (means_text l.key) l.pairs l.rest

abbrev pub decreases-loop-name : goal.decreases-loop-name
decreases-loop-name l = pair_bytes_left l.rest
