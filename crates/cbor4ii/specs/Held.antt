-- Items that a value of the tree can be read back as, and what is written for such.
use Rattle.std.specs.Prelude.{◌≡◌, ◌^◌, ◌<◌, List, length}
use Rattle.cbor4ii_items.specs.Initial.{precision_bytes}
use Rattle.cbor4ii_tree.specs.Basis.Canonical.{canonical_encoding, canonical_trees, canonical_pairs}
use Rattle.cbor4ii_tree.specs.Basis.Item.{Item, null, boolean, integer, float, bytes_item, text}
use Rattle.cbor4ii_tree.specs.Basis.Item.{sequence}
use Rattle.cbor4ii_tree.specs.Basis.Item.{mapping, tag, Items, no_items, item, ItemPairs}
use Rattle.cbor4ii_tree.specs.Basis.Item.{no_item_pairs}
use Rattle.cbor4ii_tree.specs.Basis.Item.{item_pair, item_count, item_pair_count, IsInteger}
use Rattle.cbor4ii_tree.specs.Basis.Tree.{bytes_all, bytes_pairs}
use Rattle.cbor4ii_ser.specs.Item.{Encoding, encoded, parts}
use Rattle.cbor4ii.specs.ReadBack.{IsName}

-- What a `Value` in memory can be, in which no tag stands: lengths are below 2^63, texts are
-- UTF-8, and integers are those of i128.
abbrev mutual
  pub IsHeld : Item → Type 0
  IsHeld null = Unit {0}
  IsHeld (boolean b) = Unit {0}
  IsHeld (integer z) = IsInteger z
  IsHeld (float p n) = n < 256 ^ precision_bytes p
  IsHeld (bytes_item bs) = length bs < 2 ^ 63
  IsHeld (text bs) = IsName bs
  IsHeld (sequence vs) = (item_count vs < 2 ^ 63) × AreHeld vs
  IsHeld (mapping ms) = (item_pair_count ms < 2 ^ 63) × AreHeldPairs ms
  IsHeld (tag n v) = ⊥

  pub AreHeld : Items → Type 0
  AreHeld no_items = Unit {0}
  AreHeld (item v vs) = IsHeld v × AreHeld vs

  pub AreHeldPairs : ItemPairs → Type 0
  AreHeldPairs no_item_pairs = Unit {0}
  AreHeldPairs (item_pair k v ms) = IsHeld k × IsHeld v × AreHeldPairs ms

-- What is written is the canonical encoding of this item, which a value can be.
pub record IsWrittenAs (encoding : Encoding) (v : Item) : Type 0 where
  pub held : IsHeld v
  pub is : encoding ≡ encoded (canonical_encoding v)

-- parts, one after another, are written as these items
pub record AreWrittenAs (encodings : List Encoding) (vs : Items) : Type 0 where
  pub held : AreHeld vs
  pub are : parts encodings ≡ encoded (bytes_all (canonical_trees vs))
  pub many : length encodings ≡ item_count vs

-- pairs of a map, one after another, are written as these pairs
pub record AreWrittenAsPairs (encodings : List Encoding) (ms : ItemPairs) : Type 0 where
  pub held : AreHeldPairs ms
  pub are : parts encodings ≡ encoded (bytes_pairs (canonical_pairs ms))
  pub many : length encodings ≡ item_pair_count ms
