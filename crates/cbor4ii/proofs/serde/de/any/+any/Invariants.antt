use Rattle.std.proofs.Common.{◌+◌, ◌*◌}
use Rattle.cbor4ii_items.specs.Laws.SequenceParts.{Begun, Opened}
use Rattle.cbor4ii.specs.AnyFormat.{any_format, any_pair}
use Rattle.cbor4ii.proofs.serde.de.any.+any.Given as goal

abbrev pub decreases-read_any : goal.decreases-read_any
decreases-read_any g l = 7 * (g.S.Source.view l.de.now.reader).bound + 3

abbrev pub decreases-any_inside : goal.decreases-any_inside
decreases-any_inside g l = 7 * (g.S.Source.view l.de.now.reader).bound + 2

abbrev pub decreases-any_array : goal.decreases-any_array
decreases-any_array g l = 7 * (g.S.Source.view l.de.now.reader).bound + 1

abbrev pub decreases-any_map : goal.decreases-any_map
decreases-any_map g l = 7 * (g.S.Source.view l.de.now.reader).bound + 1

abbrev pub decreases-array_inside : goal.decreases-array_inside
decreases-array_inside g l = 7 * (g.S.Source.view l.de.now.reader).bound + 0

abbrev pub decreases-map_inside : goal.decreases-map_inside
decreases-map_inside g l = 7 * (g.S.Source.view l.de.now.reader).bound + 0

abbrev pub decreases-definite_values : goal.decreases-definite_values
decreases-definite_values g l = 7 * (g.S.Source.view l.de.now.reader).bound + 6

abbrev pub decreases-indefinite_values : goal.decreases-indefinite_values
decreases-indefinite_values g l = 7 * (g.S.Source.view l.de.now.reader).bound + 6

abbrev pub decreases-definite_pairs : goal.decreases-definite_pairs
decreases-definite_pairs g l = 7 * (g.S.Source.view l.de.now.reader).bound + 6

abbrev pub decreases-indefinite_pairs : goal.decreases-indefinite_pairs
decreases-indefinite_pairs g l = 7 * (g.S.Source.view l.de.now.reader).bound + 6

abbrev pub decreases-add_value : goal.decreases-add_value
decreases-add_value g l = 7 * (g.S.Source.view l.de.now.reader).bound + 5

abbrev pub decreases-add_pair : goal.decreases-add_pair
decreases-add_pair g l = 7 * (g.S.Source.view l.de.now.reader).bound + 5

abbrev pub decreases-read_pair : goal.decreases-read_pair
decreases-read_pair g l = 7 * (g.S.Source.view l.de.now.reader).bound + 4

abbrev pub invariant-definite_values-loop-i : goal.invariant-definite_values-loop-i
invariant-definite_values-loop-i g l =
    Begun any_format l.i (g.S.Source.view l.fn.de.reader) (g.S.Source.view l.de.reader)
    l.values.items

abbrev pub invariant-definite_pairs-loop-i : goal.invariant-definite_pairs-loop-i
invariant-definite_pairs-loop-i g l =
    Begun any_pair l.i (g.S.Source.view l.fn.de.reader) (g.S.Source.view l.de.reader) l.pairs.items

abbrev pub invariant-indefinite_values-loop-values : goal.invariant-indefinite_values-loop-values
invariant-indefinite_values-loop-values g l =
    Opened any_format (g.S.Source.view l.fn.de.reader) (g.S.Source.view l.de.reader)
    l.values.items

abbrev pub decreases-indefinite_values-loop-values : goal.decreases-indefinite_values-loop-values
decreases-indefinite_values-loop-values g l = (g.S.Source.view l.de.reader).bound

abbrev pub invariant-indefinite_pairs-loop-pairs : goal.invariant-indefinite_pairs-loop-pairs
invariant-indefinite_pairs-loop-pairs g l =
    Opened any_pair (g.S.Source.view l.fn.de.reader) (g.S.Source.view l.de.reader) l.pairs.items

abbrev pub decreases-indefinite_pairs-loop-pairs : goal.decreases-indefinite_pairs-loop-pairs
decreases-indefinite_pairs-loop-pairs g l = (g.S.Source.view l.de.reader).bound
