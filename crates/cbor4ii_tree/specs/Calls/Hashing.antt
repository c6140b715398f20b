-- What a value feeds a hasher: the head of its encoding, and then what stands in it.
use Rattle.std.specs.{Prelude.{[], ◌∷◌, ◌++◌}, Hash.{HashWrites, u8, u64, i128}}
use Rattle.cbor4ii_tree.specs.Basis.Item.{Item, integer, bytes_item, text, sequence, mapping, tag}
use Rattle.cbor4ii_tree.specs.Basis.Item.{Items, no_items, item, ItemPairs, no_item_pairs}
use Rattle.cbor4ii_tree.specs.{Basis.Item.item_pair, Calls.Order.head_of}

abbrev pub head_writes : Item → HashWrites
head_writes v = u8 (head_of v).0 ++ u64 (head_of v).1

-- a string as its bytes in one write, and an integer whole
abbrev mutual
  pub inner_writes : Item → HashWrites
  inner_writes (integer z) = i128 z
  inner_writes (bytes_item bs) = bs ∷ []
  inner_writes (text bs) = bs ∷ []
  inner_writes (sequence vs) = items_writes vs
  inner_writes (mapping ms) = pairs_writes ms
  inner_writes (tag n v) = head_writes v ++ inner_writes v
  inner_writes _ = []

  pub items_writes : Items → HashWrites
  items_writes no_items = []
  items_writes (item v vs) = (head_writes v ++ inner_writes v) ++ items_writes vs

  pub pairs_writes : ItemPairs → HashWrites
  pairs_writes no_item_pairs = []
  pairs_writes (item_pair k v ms) =
      (head_writes k ++ inner_writes k) ++ ((head_writes v ++ inner_writes v) ++ pairs_writes ms)

abbrev pub hash_writes : Item → HashWrites
hash_writes v = head_writes v ++ inner_writes v
