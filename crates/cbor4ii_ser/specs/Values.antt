-- Values of the tree as typed values: those that hold no tag have an item, their canonical
-- encoding.
use Rattle.std.specs.Prelude.{ℕ, List, [], Bool, true, false, ◌||◌, codes}
use Rattle.cbor4ii_tree.specs.Basis.Item.{Item, null, boolean, integer, float, bytes_item, text}
use Rattle.cbor4ii_tree.specs.Basis.Item.{sequence}
use Rattle.cbor4ii_tree.specs.Basis.Item.{mapping, tag, Items, no_items, item, ItemPairs}
use Rattle.cbor4ii_tree.specs.Basis.Item.{no_item_pairs}
use Rattle.cbor4ii_tree.specs.Basis.Item.{item_pair}
use Rattle.cbor4ii_tree.specs.Basis.Canonical.{canonical_encoding}
use Rattle.cbor4ii_ser.specs.Item.{Encoding, encoded, rejected}

-- a tag stands somewhere in it
abbrev mutual
  pub holds_tag : Item → Bool
  holds_tag null = false
  holds_tag (boolean b) = false
  holds_tag (integer z) = false
  holds_tag (float p n) = false
  holds_tag (bytes_item bs) = false
  holds_tag (text bs) = false
  holds_tag (sequence vs) = some_holds_tag vs
  holds_tag (mapping ms) = pairs_hold_tag ms
  holds_tag (tag n v) = true

  pub some_holds_tag : Items → Bool
  some_holds_tag no_items = false
  some_holds_tag (item v vs) = holds_tag v || some_holds_tag vs

  pub pairs_hold_tag : ItemPairs → Bool
  pairs_hold_tag no_item_pairs = false
  pairs_hold_tag (item_pair k v ms) = (holds_tag k || holds_tag v) || pairs_hold_tag ms

-- an item of these bytes, or rejected before any of them, since a tag stands in it
abbrev pub unless : Bool → List ℕ → Encoding
unless true bytes = rejected [] (codes "serialization Tag via serde is not supported")
unless false bytes = encoded bytes

abbrev pub value_encoding : Item → Encoding
value_encoding v = unless (holds_tag v) (canonical_encoding v)
