-- What a value is looked into for: what it holds, and the pairs of a map by their keys.
use Rattle.std.specs.Prelude.{◌≡◌, ◌≤◌, ℕ, ℤ, List, Bool, Option, Some, None, if◌then◌else◌, ◌⊎◌}
use Rattle.cbor4ii_tree.specs.Basis.Item.{Item, boolean, integer, float, bytes_item, text, sequence}
use Rattle.cbor4ii_tree.specs.Basis.Item.{mapping, tag, Items, no_items, item, ItemPairs}
use Rattle.cbor4ii_tree.specs.Basis.Item.{no_item_pairs, item_pair, item_pair_count}
use Rattle.cbor4ii_tree.specs.Calls.ItemEquality.{item_eq}

-- the truth value of a boolean alone
abbrev pub as_bool : Item → Option Bool
as_bool (boolean b) = Some b
as_bool _ = None

-- the value of an integer alone
abbrev pub as_integer : Item → Option ℤ
as_integer (integer z) = Some z
as_integer _ = None

-- the float itself, with its width, of a float alone
abbrev pub as_float : Item → Option Item
as_float (float p n) = Some (float p n)
as_float _ = None

-- the content of a byte string alone
abbrev pub as_bytes : Item → Option (List ℕ)
as_bytes (bytes_item bs) = Some bs
as_bytes _ = None

-- the bytes of a text alone
abbrev pub as_text : Item → Option (List ℕ)
as_text (text bs) = Some bs
as_text _ = None

-- the values of an array alone
abbrev pub as_array : Item → Option Items
as_array (sequence vs) = Some vs
as_array _ = None

-- the pairs of a map alone
abbrev pub as_map : Item → Option ItemPairs
as_map (mapping ms) = Some ms
as_map _ = None

-- the number of a tag alone, and what it is on
abbrev pub as_tag : Item → Option (ℕ × Item)
as_tag (tag n v) = Some (n, v)
as_tag _ = None

-- the value of the first pair whose key is this text
abbrev pub find_text : List ℕ → ItemPairs → Option Item
find_text key no_item_pairs = None
find_text key (item_pair k v ms) = if item_eq k (text key) then Some v else find_text key ms

-- the value of the first pair that has this key
abbrev pub find_value : Item → ItemPairs → Option Item
find_value key no_item_pairs = None
find_value key (item_pair k v ms) = if item_eq k key then Some v else find_value key ms

-- some pair has this key
abbrev pub HasKey : Item → ItemPairs → Type 0
HasKey key no_item_pairs = ⊥
HasKey key (item_pair k v ms) = (k ≡ key) ⊎ HasKey key ms

-- two pairs have equal keys
abbrev pub HasEqualKeys : ItemPairs → Type 0
HasEqualKeys no_item_pairs = ⊥
HasEqualKeys (item_pair k v ms) = HasKey k ms ⊎ HasEqualKeys ms

-- a map two of whose pairs have equal keys
abbrev pub MapHasEqualKeys : Item → Type 0
MapHasEqualKeys (mapping ms) = HasEqualKeys ms
MapHasEqualKeys _ = ⊥

-- ---- maps inside

-- two pairs or more
abbrev pub HasTwoPairs : ItemPairs → Type 0
HasTwoPairs ms = 2 ≤ item_pair_count ms

-- a map of which P holds
abbrev pub IsMapWith : (ItemPairs → Type 0) → Item → Type 0
IsMapWith P (mapping ms) = P ms
IsMapWith P _ = ⊥

-- A map is inside in an array, on a tag, in a key or in a value.
-- P holds of the value, where it is a map, or of one inside it, at any level.
abbrev mutual
  pub HasMapWith : (ItemPairs → Type 0) → Item → Type 0
  HasMapWith P (sequence vs) = SomeHasMapWith P vs
  HasMapWith P (mapping ms) = P ms ⊎ PairHasMapWith P ms
  HasMapWith P (tag n v) = HasMapWith P v
  HasMapWith P _ = ⊥

  pub SomeHasMapWith : (ItemPairs → Type 0) → Items → Type 0
  SomeHasMapWith P no_items = ⊥
  SomeHasMapWith P (item v vs) = HasMapWith P v ⊎ SomeHasMapWith P vs

  pub PairHasMapWith : (ItemPairs → Type 0) → ItemPairs → Type 0
  PairHasMapWith P no_item_pairs = ⊥
  PairHasMapWith P (item_pair k v ms) = HasMapWith P k ⊎ (HasMapWith P v ⊎ PairHasMapWith P ms)
