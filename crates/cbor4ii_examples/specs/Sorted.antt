-- Values whose maps have their pairs in the order of their keys' encodings (RFC 8949 section
-- 4.2.1), and what the order of pairs leaves as it is.
use Rattle.std.specs.Prelude.{◌≡◌, ◌⊎◌, ℕ, zero, suc, ◌<◌, Bool, false, true, if◌then◌else◌}
use Rattle.std.specs.Ordering.{is_lt, nat_cmp}
use Rattle.std.specs.Cmp.Lexicographic.{slice_cmp}
use Rattle.cbor4ii_tree.specs.Calls.Access.{HasMapWith}
use Rattle.cbor4ii_tree.specs.Basis.Canonical.{canonical_encoding}
use Rattle.cbor4ii_tree.specs.Basis.Item.{Item, sequence, mapping, tag, Items, no_items, item}
use Rattle.cbor4ii_tree.specs.Basis.Item.{ItemPairs}
use Rattle.cbor4ii_tree.specs.Basis.Item.{no_item_pairs, item_pair, item_pair_count, null, boolean}
use Rattle.cbor4ii_tree.specs.Basis.Item.{integer, float}
use Rattle.cbor4ii_tree.specs.Basis.Item.{bytes_item, text}
use Rattle.cbor4ii_examples.specs.declared.sorted.SortedError.{SortedError}
use Rattle.cbor4ii_examples.specs.declared.sorted.SortedError.TheVariants.{EqualKeys, NoMemory}

-- the encoding of one key is below that of another, byte by byte
abbrev pub key_below : Item → Item → Bool
key_below k l = is_lt (slice_cmp nat_cmp (canonical_encoding k) (canonical_encoding l))

-- ---- a value with the pairs of each map in order

-- the pairs with one more, before the first whose key is not below its key
abbrev pub with_pair : Item → Item → ItemPairs → ItemPairs
with_pair k v no_item_pairs = item_pair k v no_item_pairs
with_pair k v (item_pair l w ms) =
    if key_below l k then item_pair l w (with_pair k v ms) else item_pair k v (item_pair l w ms)

-- the pairs in the order of their keys, those of equal keys in the order that they had
abbrev pub in_order : ItemPairs → ItemPairs
in_order no_item_pairs = no_item_pairs
in_order (item_pair k v ms) = with_pair k v (in_order ms)

-- the value with the pairs of each map in order, at every depth, from the inside out
abbrev mutual
  pub sort_of : Item → Item
  sort_of null = null
  sort_of (boolean b) = boolean b
  sort_of (integer z) = integer z
  sort_of (float p n) = float p n
  sort_of (bytes_item bs) = bytes_item bs
  sort_of (text bs) = text bs
  sort_of (sequence vs) = sequence (sorted_items vs)
  sort_of (mapping ms) = mapping (in_order (sorted_pairs ms))
  sort_of (tag n v) = tag n (sort_of v)

  pub sorted_items : Items → Items
  sorted_items no_items = no_items
  sorted_items (item v vs) = item (sort_of v) (sorted_items vs)

  -- what stands in the pairs is sorted, and the pairs stay where they are
  pub sorted_pairs : ItemPairs → ItemPairs
  sorted_pairs no_item_pairs = no_item_pairs
  sorted_pairs (item_pair k v ms) = item_pair (sort_of k) (sort_of v) (sorted_pairs ms)

-- ---- values that are in order

-- P holds of each map in the value, at every depth: in arrays, on tags, in keys and in values
abbrev mutual
  pub EachMap : (ItemPairs → Type 0) → Item → Type 0
  EachMap P (sequence vs) = EachMapOfItems P vs
  EachMap P (mapping ms) = P ms × EachMapOfPairs P ms
  EachMap P (tag n v) = EachMap P v
  EachMap P _ = Unit {0}

  pub EachMapOfItems : (ItemPairs → Type 0) → Items → Type 0
  EachMapOfItems P no_items = Unit {0}
  EachMapOfItems P (item v vs) = EachMap P v × EachMapOfItems P vs

  pub EachMapOfPairs : (ItemPairs → Type 0) → ItemPairs → Type 0
  EachMapOfPairs P no_item_pairs = Unit {0}
  EachMapOfPairs P (item_pair k v ms) = EachMap P k × EachMap P v × EachMapOfPairs P ms

-- this key is not above the first of the pairs
abbrev pub IsNotAboveFirst : Item → ItemPairs → Type 0
IsNotAboveFirst k no_item_pairs = Unit {0}
IsNotAboveFirst k (item_pair l w ms) = key_below l k ≡ false

-- no key is below the one before it
abbrev pub KeysInOrder : ItemPairs → Type 0
KeysInOrder no_item_pairs = Unit {0}
KeysInOrder (item_pair k v ms) = IsNotAboveFirst k ms × KeysInOrder ms

-- this key is below the first of the pairs
abbrev pub IsBelowFirst : Item → ItemPairs → Type 0
IsBelowFirst k no_item_pairs = Unit {0}
IsBelowFirst k (item_pair l w ms) = key_below k l ≡ true

-- each key is below the next one, so that no two are equal
abbrev pub KeysAscend : ItemPairs → Type 0
KeysAscend no_item_pairs = Unit {0}
KeysAscend (item_pair k v ms) = IsBelowFirst k ms × KeysAscend ms

-- ---- values that are equal but for the order of pairs

-- the pairs with one more at this place, or at the end where they are fewer
abbrev pub with_pair_at : ℕ → Item → Item → ItemPairs → ItemPairs
with_pair_at zero k v ms = item_pair k v ms
with_pair_at (suc i) k v no_item_pairs = item_pair k v no_item_pairs
with_pair_at (suc i) k v (item_pair l w ms) = item_pair l w (with_pair_at i k v ms)

-- The values are equal up to the order of the pairs of each map, at every depth: a map's first pair
-- stands at some place of the other map, and the other pairs are those of the rest.
abbrev mutual
  pub SameUpToOrder : Item → Item → Type 0
  SameUpToOrder (sequence vs) (sequence ws) = SameItems vs ws
  SameUpToOrder (mapping ms) (mapping ns) = SamePairs ms ns
  SameUpToOrder (tag m v) (tag n w) = (m ≡ n) × SameUpToOrder v w
  SameUpToOrder v w = v ≡ w

  pub SameItems : Items → Items → Type 0
  SameItems (item v vs) (item w ws) = SameUpToOrder v w × SameItems vs ws
  SameItems vs ws = vs ≡ ws

  pub SamePairs : ItemPairs → ItemPairs → Type 0
  SamePairs no_item_pairs ns = no_item_pairs ≡ ns
  SamePairs (item_pair k v ms) ns =
      (place : ℕ) × (l : Item) × (w : Item) × (rest : ItemPairs)
      × (with_pair_at place l w rest ≡ ns)
      × SameUpToOrder k l × SameUpToOrder v w × SamePairs ms rest

-- ---- memory

-- more pairs than a stable sort orders in place
abbrev pub HasManyPairs : ItemPairs → Type 0
HasManyPairs ms = 20 < item_pair_count ms

-- ---- errors

-- Memory is refused for sorting a long map, or for writing a value with no equal keys.
-- The sorted encoding is refused: two keys of a map are equal, or memory was refused.
abbrev pub IsRefused : SortedError → Item → Type 0
IsRefused EqualKeys v = EachMap KeysAscend (sort_of v) → ⊥
IsRefused NoMemory v = HasMapWith HasManyPairs v ⊎ EachMap KeysAscend (sort_of v)
