use Rattle.std.proofs.Common.{◌+◌, ◌*◌, ◌≤◌, length}
use Rattle.cbor4ii_tree.specs.{Basis.Item.AreItems, Inner.LeafRuns.pair_values}
use Rattle.cbor4ii_tree.specs.{Inner.Valuing.flat_values, Basis.View.items_view}
use Rattle.cbor4ii_tree.proofs.{skip_calls.Doing.Reached, values.Sequences.ReadEach}
use Rattle.cbor4ii_tree.proofs.decode_value.+read.Given as goal

abbrev pub decreases-read_value : goal.decreases-read_value
decreases-read_value g l = 8 * (g.S.Source.view l.reader.now).bound + 5

abbrev pub decreases-read_inside : goal.decreases-read_inside
decreases-read_inside g l = 8 * (g.S.Source.view l.reader.now).bound + 4

abbrev pub decreases-read_next : goal.decreases-read_next
decreases-read_next g l = 8 * (g.S.Source.view l.reader.now).bound + 3

abbrev pub decreases-read_tag : goal.decreases-read_tag
decreases-read_tag g l = 8 * (g.S.Source.view l.reader.now).bound + 2

abbrev pub decreases-read_tagged : goal.decreases-read_tagged
decreases-read_tagged g l = 8 * (g.S.Source.view l.reader.now).bound + 6

abbrev pub decreases-read_array : goal.decreases-read_array
decreases-read_array g l = 8 * (g.S.Source.view l.reader.now).bound + 2

abbrev pub decreases-read_map : goal.decreases-read_map
decreases-read_map g l = 8 * (g.S.Source.view l.reader.now).bound + 2

abbrev pub decreases-array_inside : goal.decreases-array_inside
decreases-array_inside g l = 8 * (g.S.Source.view l.reader.now).bound + 1

abbrev pub decreases-map_inside : goal.decreases-map_inside
decreases-map_inside g l = 8 * (g.S.Source.view l.reader.now).bound + 1

abbrev pub decreases-definite_items : goal.decreases-definite_items
decreases-definite_items g l = 8 * (g.S.Source.view l.reader.now).bound + 7

abbrev pub decreases-indefinite_items : goal.decreases-indefinite_items
decreases-indefinite_items g l = 8 * (g.S.Source.view l.reader.now).bound + 7

abbrev pub decreases-definite_pairs : goal.decreases-definite_pairs
decreases-definite_pairs g l = 8 * (g.S.Source.view l.reader.now).bound + 7

abbrev pub decreases-indefinite_pairs : goal.decreases-indefinite_pairs
decreases-indefinite_pairs g l = 8 * (g.S.Source.view l.reader.now).bound + 7

abbrev pub decreases-read_pair : goal.decreases-read_pair
decreases-read_pair g l = 8 * (g.S.Source.view l.reader.now).bound + 6

abbrev pub decreases-more_items : goal.decreases-more_items
decreases-more_items g l = 8 * (g.S.Source.view l.reader.now).bound + 5

abbrev pub decreases-items_inside : goal.decreases-items_inside
decreases-items_inside g l = 8 * (g.S.Source.view l.reader.now).bound + 4

abbrev pub decreases-more_pairs : goal.decreases-more_pairs
decreases-more_pairs g l = 8 * (g.S.Source.view l.reader.now).bound + 5

abbrev pub decreases-pairs_inside : goal.decreases-pairs_inside
decreases-pairs_inside g l = 8 * (g.S.Source.view l.reader.now).bound + 4

abbrev pub invariant-definite_items-loop-alloc : goal.invariant-definite_items-loop-alloc
invariant-definite_items-loop-alloc g l = record {
  reached : Reached (ReadEach g.A.Encodings.canonical l.items.items (g.S.Source.view
      l.fn.reader).budget) (g.S.Source.view l.fn.reader) (g.S.Source.view l.reader);
  items : AreItems (items_view l.items.items);
  few : length l.items.items ≤ 1 * l.count;
}

abbrev pub decreases-definite_items-loop-alloc : goal.decreases-definite_items-loop-alloc
decreases-definite_items-loop-alloc g l = (g.S.Source.view l.reader).bound

abbrev pub invariant-definite_pairs-loop-alloc : goal.invariant-definite_pairs-loop-alloc
invariant-definite_pairs-loop-alloc g l = record {
  reached : Reached (ReadEach g.A.Encodings.canonical (pair_values l.pairs) (g.S.Source.view
      l.fn.reader).budget) (g.S.Source.view l.fn.reader) (g.S.Source.view l.reader);
  items : AreItems (items_view (pair_values l.pairs));
  few : length (pair_values l.pairs) ≤ 2 * l.count;
}

abbrev pub decreases-definite_pairs-loop-alloc : goal.decreases-definite_pairs-loop-alloc
decreases-definite_pairs-loop-alloc g l = (g.S.Source.view l.reader).bound

abbrev pub invariant-indefinite_items-loop-items : goal.invariant-indefinite_items-loop-items
invariant-indefinite_items-loop-items g l =
    record {
      reached : Reached (ReadEach g.A.Encodings.canonical l.items.items (g.S.Source.view
          l.fn.reader).budget) (g.S.Source.view l.fn.reader) (g.S.Source.view l.reader);
      items : AreItems (items_view l.items.items);
    }

abbrev pub decreases-indefinite_items-loop-items : goal.decreases-indefinite_items-loop-items
decreases-indefinite_items-loop-items g l = (g.S.Source.view l.reader).bound

abbrev pub invariant-indefinite_pairs-loop-pairs :
    goal.invariant-indefinite_pairs-loop-pairs
invariant-indefinite_pairs-loop-pairs g l =
    record {
      reached : Reached (ReadEach g.A.Encodings.canonical (flat_values l.pairs.items)
          (g.S.Source.view l.fn.reader).budget) (g.S.Source.view l.fn.reader)
          (g.S.Source.view l.reader);
      items : AreItems (items_view (flat_values l.pairs.items));
    }

abbrev pub decreases-indefinite_pairs-loop-pairs :
    goal.decreases-indefinite_pairs-loop-pairs
decreases-indefinite_pairs-loop-pairs g l = (g.S.Source.view l.reader).bound
