-- Reading a value, as a program on lists.
use Rattle.std.specs.Prelude.{Ok}
use Rattle.cbor4ii_tree.specs.{Basis.Cost.Budget, Basis.Item.Item, Calls.ItemAt.item_at}
use Rattle.cbor4ii_tree.specs.{Basis.Meaning.value, Calls.Parse.{Parser, ◌>>=◌}}
use Rattle.cbor4ii_tree.specs.{Calls.ReadingRejects.reading_profile, Basis.Tree.Tree}

-- the plain tree at the beginning of the input, and the rest
abbrev pub read_tree : Budget → Parser Tree
read_tree = item_at reading_profile

-- the value at the beginning of the input, and the rest
abbrev pub parse_value : Budget → Parser Item
parse_value budget bs = read_tree budget bs >>= λ p. Ok (value p.0, p.1)
