-- Values: what an encoded data item means, in the generic data model of RFC 8949 section 2. Null
-- and undefined are one, a float is its bits with their width, and a map is its pairs in order,
-- equal keys kept.
use Rattle.std.specs.Prelude.{ℕ, suc, ◌+◌, ◌^◌, ◌<◌, ℤ, pos, negsuc, List, Bool, length, IsUtf8}
use Rattle.cbor4ii_items.specs.Initial.{Precision, precision_bytes}

mutual
  -- what an encoded data item means
  pub data Item : Type 0 where
    null : Item
    boolean : Bool → Item
    integer : ℤ → Item
    float : Precision → ℕ → Item
    bytes_item : List ℕ → Item
    text : List ℕ → Item
    sequence : Items → Item
    mapping : ItemPairs → Item
    tag : ℕ → Item → Item

  pub data Items : Type 0 where
    no_items : Items
    item : Item → Items → Items

  pub data ItemPairs : Type 0 where
    no_item_pairs : ItemPairs
    item_pair : Item → Item → ItemPairs → ItemPairs

abbrev pub item_count : Items → ℕ
item_count no_items = 0
item_count (item v vs) = suc (item_count vs)

abbrev pub item_pair_count : ItemPairs → ℕ
item_pair_count no_item_pairs = 0
item_pair_count (item_pair k v ms) = suc (item_pair_count ms)

-- the size of a value: how many values stand in it, itself counted, and the length of its strings
abbrev mutual
  pub size : Item → ℕ
  size null = 1
  size (boolean b) = 1
  size (integer z) = 1
  size (float p n) = 1
  size (bytes_item bs) = 1 + length bs
  size (text bs) = 1 + length bs
  size (sequence vs) = 1 + size_all vs
  size (mapping ms) = 1 + size_pairs ms
  size (tag n v) = 1 + size v

  pub size_all : Items → ℕ
  size_all no_items = 0
  size_all (item v vs) = size v + size_all vs

  pub size_pairs : ItemPairs → ℕ
  size_pairs no_item_pairs = 0
  size_pairs (item_pair k v ms) = size k + size v + size_pairs ms

-- An integer of a value of the program is one of i128.
abbrev pub IsInteger : ℤ → Type 0
IsInteger (pos n) = n < 2 ^ 127
IsInteger (negsuc n) = n < 2 ^ 127

abbrev mutual
  -- a value of the program: lengths and tags are below 2 ^ 64, and texts are UTF-8
  pub IsItem : Item → Type 0
  IsItem null = Unit {0}
  IsItem (boolean b) = Unit {0}
  IsItem (integer z) = IsInteger z
  IsItem (float p n) = n < 256 ^ precision_bytes p
  IsItem (bytes_item bs) = length bs < 2 ^ 64
  IsItem (text bs) = (length bs < 2 ^ 64) × IsUtf8 bs
  IsItem (sequence vs) = (item_count vs < 2 ^ 64) × AreItems vs
  IsItem (mapping ms) = (item_pair_count ms < 2 ^ 64) × AreItemPairs ms
  IsItem (tag n v) = (n < 2 ^ 64) × IsItem v

  pub AreItems : Items → Type 0
  AreItems no_items = Unit {0}
  AreItems (item v vs) = IsItem v × AreItems vs

  pub AreItemPairs : ItemPairs → Type 0
  AreItemPairs no_item_pairs = Unit {0}
  AreItemPairs (item_pair k v ms) = IsItem k × IsItem v × AreItemPairs ms
