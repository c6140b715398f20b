-- The canonical encoding of a value, the one that encoders write: shortest heads, lengths given,
-- null for null and floats in their own width (preferred serialization, RFC 8949 section 4.1),
-- and bignums for integers beyond 64 bits. Map keys keep their order, so it is not the whole of
-- section 4.2.
use Rattle.std.specs.Prelude.{ℕ, ◌^◌, List, length, Bool, true, false, nat_lt, if◌then◌else◌, pos}
use Rattle.std.specs.Prelude.{negsuc}
use Rattle.cbor4ii_items.specs.{Head.shortest_width, Initial.{unsigned, negative, Sign}}
use Rattle.cbor4ii_items.specs.Initial.{byte_string, text_string, simple_false, simple_true}
use Rattle.cbor4ii_items.specs.Initial.{simple_null, Simple}
use Rattle.cbor4ii_tree.specs.Basis.Tree.{Tree, int, string, array, map_of, tagged, simple, bits}
use Rattle.cbor4ii_tree.specs.Basis.Tree.{Trees, no_trees, tree, Pairs, no_pairs, pair, bytes}
use Rattle.cbor4ii_tree.specs.{Basis.Cost.cost, Basis.Item.{Item, null, boolean, integer, float}}
use Rattle.cbor4ii_tree.specs.Basis.Item.{bytes_item, text, sequence, mapping, tag, Items, no_items}
use Rattle.cbor4ii_tree.specs.Basis.Item.{item, item_count, ItemPairs, no_item_pairs, item_pair}
use Rattle.cbor4ii_tree.specs.Basis.Item.{item_pair_count}
pub use Rattle.cbor4ii_items.specs.Magnitude.{without_leading_zeros, magnitude}

abbrev pub sign_tag : Sign → ℕ
sign_tag unsigned = 2
sign_tag negative = 3

-- a bignum (section 3.4.3): tag 2 over the bytes of n, or tag 3 over them for the integer -1 - n
abbrev pub bignum : Sign → ℕ → Tree
bignum s n = tagged (sign_tag s) (shortest_width (sign_tag s))
    (string byte_string (shortest_width (length (magnitude n))) (magnitude n))

-- an integer's shortest head, where its argument has one, else its bignum
abbrev pub integer_tree : Sign → ℕ → Tree
integer_tree s n = if nat_lt n (2 ^ 64) then int s n (shortest_width n) else bignum s n

abbrev pub boolean_simple : Bool → Simple
boolean_simple false = simple_false
boolean_simple true = simple_true

abbrev mutual
  pub canonical_tree : Item → Tree
  canonical_tree null = simple simple_null
  canonical_tree (boolean b) = simple (boolean_simple b)
  canonical_tree (integer (pos n)) = integer_tree unsigned n
  canonical_tree (integer (negsuc n)) = integer_tree negative n
  canonical_tree (float p n) = bits p n
  canonical_tree (bytes_item bs) = string byte_string (shortest_width (length bs)) bs
  canonical_tree (text bs) = string text_string (shortest_width (length bs)) bs
  canonical_tree (sequence vs) = array (shortest_width (item_count vs)) (canonical_trees vs)
  canonical_tree (mapping ms) = map_of (shortest_width (item_pair_count ms)) (canonical_pairs ms)
  canonical_tree (tag n v) = tagged n (shortest_width n) (canonical_tree v)

  pub canonical_trees : Items → Trees
  canonical_trees no_items = no_trees
  canonical_trees (item v vs) = tree (canonical_tree v) (canonical_trees vs)

  pub canonical_pairs : ItemPairs → Pairs
  canonical_pairs no_item_pairs = no_pairs
  canonical_pairs (item_pair k v ms) = pair (canonical_tree k) (canonical_tree v)
      (canonical_pairs ms)

-- the one encoding that is written for a value
abbrev pub canonical_encoding : Item → List ℕ
canonical_encoding v = bytes (canonical_tree v)

-- what the canonical encoding costs to read
abbrev pub canonical_cost : Item → ℕ
canonical_cost v = cost (canonical_tree v)

-- an integer as reading it back gives it: where it has no head, the bignum that it is written as
abbrev pub tagged_integer : Sign → ℕ → Item → Item
tagged_integer s n small =
    if nat_lt n (2 ^ 64) then small else tag (sign_tag s) (bytes_item (magnitude n))

-- a value as reading it back gives it: each integer without a head is the bignum it is written as
abbrev mutual
  pub with_bignums : Item → Item
  with_bignums null = null
  with_bignums (boolean b) = boolean b
  with_bignums (integer (pos n)) = tagged_integer unsigned n (integer (pos n))
  with_bignums (integer (negsuc n)) = tagged_integer negative n (integer (negsuc n))
  with_bignums (float p n) = float p n
  with_bignums (bytes_item bs) = bytes_item bs
  with_bignums (text bs) = text bs
  with_bignums (sequence vs) = sequence (with_bignums_all vs)
  with_bignums (mapping ms) = mapping (with_bignums_pairs ms)
  with_bignums (tag n v) = tag n (with_bignums v)

  pub with_bignums_all : Items → Items
  with_bignums_all no_items = no_items
  with_bignums_all (item v vs) = item (with_bignums v) (with_bignums_all vs)

  pub with_bignums_pairs : ItemPairs → ItemPairs
  with_bignums_pairs no_item_pairs = no_item_pairs
  with_bignums_pairs (item_pair k v ms) =
      item_pair (with_bignums k) (with_bignums v) (with_bignums_pairs ms)
