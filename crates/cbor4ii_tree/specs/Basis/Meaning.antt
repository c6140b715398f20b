-- What a tree means, by RFC 8949 sections 3.1 to 3.3.
use Rattle.std.specs.Prelude.{ℕ, List, pos, negsuc, ℤ, true, false}
use Rattle.cbor4ii_items.specs.Initial.{Sign, unsigned, negative, Kind, byte_string, text_string}
use Rattle.cbor4ii_items.specs.Initial.{Simple, simple_false, simple_true, simple_null}
use Rattle.cbor4ii_items.specs.Initial.{simple_undefined}
use Rattle.cbor4ii_tree.specs.Basis.Tree.{Tree, int, string, chunked, array, array_indefinite}
use Rattle.cbor4ii_tree.specs.Basis.Tree.{map_of, map_indefinite, tagged, simple, bits, Trees}
use Rattle.cbor4ii_tree.specs.Basis.Tree.{no_trees, tree, Pairs, no_pairs, pair, joined_chunks}
use Rattle.cbor4ii_tree.specs.Basis.Item.{Item, null, boolean, integer, float, bytes_item, text}
use Rattle.cbor4ii_tree.specs.Basis.Item.{sequence, mapping, tag, Items, no_items, item, ItemPairs}
use Rattle.cbor4ii_tree.specs.Basis.Item.{no_item_pairs, item_pair}

-- the integer n, or -1 - n (section 3.1, major types 0 and 1)
abbrev pub number : Sign → ℕ → ℤ
number unsigned n = pos n
number negative n = negsuc n

abbrev pub content_item : Kind → List ℕ → Item
content_item byte_string content = bytes_item content
content_item text_string content = text content

-- The data model has null and undefined apart; this codec reads both as null (section 3.3).
abbrev pub simple_item : Simple → Item
simple_item simple_false = boolean false
simple_item simple_true = boolean true
simple_item simple_null = null
simple_item simple_undefined = null

-- The value of a tree: chunks joined (section 3.2.3), items and pairs in order, equal keys kept.
abbrev mutual
  pub value : Tree → Item
  value (int s n w) = integer (number s n)
  value (string k w content) = content_item k content
  value (chunked k ts) = content_item k (joined_chunks ts)
  value (array w ts) = sequence (values ts)
  value (array_indefinite ts) = sequence (values ts)
  value (map_of w ps) = mapping (pair_values_of ps)
  value (map_indefinite ps) = mapping (pair_values_of ps)
  value (tagged n w t) = tag n (value t)
  value (simple s) = simple_item s
  value (bits p n) = float p n

  pub values : Trees → Items
  values no_trees = no_items
  values (tree t ts) = item (value t) (values ts)

  pub pair_values_of : Pairs → ItemPairs
  pair_values_of no_pairs = no_item_pairs
  pair_values_of (pair k v ps) = item_pair (value k) (value v) (pair_values_of ps)
