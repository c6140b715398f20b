-- What a `Value` of the program stands for.
use Rattle.std.specs.Prelude.{List, [], ◌∷◌, map, string_bytes}
use Rattle.cbor4ii_items.specs.Initial.{half, single, double}
use Rattle.cbor4ii_tree.specs.Basis.Item.{Item, null, boolean, integer, float, bytes_item, text}
use Rattle.cbor4ii_tree.specs.Basis.Item.{sequence, mapping, tag, Items, no_items, item, ItemPairs}
use Rattle.cbor4ii_tree.specs.Basis.Item.{no_item_pairs, item_pair}
use Rattle.cbor4ii_tree.specs.declared.value.{FloatBits.FloatBits, Value.{Value, fold-Value}}
use Rattle.cbor4ii_tree.specs.declared.value.FloatBits.TheVariants.{F16, F32, F64}
use Rattle.cbor4ii_tree.specs.declared.value.Value.TheOpen.{Value-F}

abbrev pub items_of : List Item → Items
items_of [] = no_items
items_of (v ∷ vs) = item v (items_of vs)

abbrev pub item_pairs_of : List (Item × Item) → ItemPairs
item_pairs_of [] = no_item_pairs
item_pairs_of (m ∷ ms) = item_pair m.0 m.1 (item_pairs_of ms)

abbrev pub float_view : FloatBits → Item
float_view (F16 n) = float half n
float_view (F32 n) = float single n
float_view (F64 n) = float double n

-- one level of a value as an item, with each value inside already seen as its item
abbrev pub view_step : Value-F Item → Item
view_step Value-F.Null = null
view_step (Value-F.Bool b) = boolean b
view_step (Value-F.Integer z) = integer z
view_step (Value-F.Float f) = float_view f
view_step (Value-F.Bytes v) = bytes_item v.items
view_step (Value-F.Text s) = text (string_bytes s)
view_step (Value-F.Array v) = sequence (items_of v.items)
view_step (Value-F.Map v) = mapping (item_pairs_of v.items)
view_step (Value-F.Tag n v) = tag n v.value

-- what a `Value` of a program means
abbrev pub view : Value → Item
view = fold-Value Item view_step

abbrev pub items_view : List Value → Items
items_view vs = items_of (map view vs)

abbrev pub pair_view : Value × Value → Item × Item
pair_view m = (view m.0, view m.1)

abbrev pub pairs_view : List (Value × Value) → ItemPairs
pairs_view ms = item_pairs_of (map pair_view ms)
