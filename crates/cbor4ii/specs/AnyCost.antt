-- The steps that reading any item takes at its deepest place: one for a value, and one more for an
-- array or a map. A bignum is an integer, and takes one.
use Rattle.std.specs.Prelude.{ℕ, ◌+◌, max}
use Rattle.cbor4ii_tree.specs.Basis.Item.{Item, null, boolean, integer, float, bytes_item, text}
use Rattle.cbor4ii_tree.specs.Basis.Item.{sequence}
use Rattle.cbor4ii_tree.specs.Basis.Item.{mapping, tag, Items, no_items, item, ItemPairs}
use Rattle.cbor4ii_tree.specs.Basis.Item.{no_item_pairs}
use Rattle.cbor4ii_tree.specs.Basis.Item.{item_pair}

abbrev mutual
  pub any_cost : Item → ℕ
  any_cost null = 1
  any_cost (boolean b) = 1
  any_cost (integer z) = 1
  any_cost (float p n) = 1
  any_cost (bytes_item bs) = 1
  any_cost (text bs) = 1
  any_cost (sequence vs) = 2 + greatest_any_cost vs
  any_cost (mapping ms) = 2 + greatest_any_pair_cost ms
  any_cost (tag n v) = 1 + any_cost v

  pub greatest_any_cost : Items → ℕ
  greatest_any_cost no_items = 0
  greatest_any_cost (item v vs) = max (any_cost v) (greatest_any_cost vs)

  pub greatest_any_pair_cost : ItemPairs → ℕ
  greatest_any_pair_cost no_item_pairs = 0
  greatest_any_pair_cost (item_pair k v ms) =
      max (max (any_cost k) (any_cost v)) (greatest_any_pair_cost ms)
