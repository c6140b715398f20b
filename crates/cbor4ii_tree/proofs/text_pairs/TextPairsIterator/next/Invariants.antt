use Rattle.std.proofs.Common.{◌≡◌, length}
use Rattle.cbor4ii_tree.specs.Calls.TextPairs.{texts_to_come}
use Rattle.cbor4ii_tree.proofs.text_pairs.TextPairsIterator.next.Given as goal

abbrev pub invariant-loop-pair : goal.invariant-loop-pair
invariant-loop-pair l = texts_to_come l.initial.self ≡ texts_to_come l.self

abbrev pub decreases-loop-pair : goal.decreases-loop-pair
decreases-loop-pair l = length l.self.0.now
