-- A value of one of several kinds, as the value inside.
use Rattle.std.specs.Prelude.{[], ◌∷◌, string_bytes}
use Rattle.cbor4ii_items.specs.Numbers.{signed_head}
use Rattle.cbor4ii_items.specs.Simple.{bool_byte}
use Rattle.cbor4ii_items.specs.Strings.{definite_string}
use Rattle.cbor4ii_ser.specs.Item.{Encoding, encoded, array_encoding, tuple_encoding}
use Rattle.cbor4ii_memory.specs.declared.levels.Node.{Node, fold-Node}
use Rattle.cbor4ii_memory.specs.declared.levels.Node.TheOpen.{Node-F}

-- one value, with what is written for each value inside in its place
abbrev pub level_step : Node-F Encoding → Encoding
level_step Node-F.Null = encoded (0xf6 ∷ [])
level_step (Node-F.Flag flag) = encoded (bool_byte flag ∷ [])
level_step (Node-F.Number number) = encoded (signed_head number)
level_step (Node-F.Text text) = encoded (definite_string 3 (string_bytes text))
level_step (Node-F.List items) = array_encoding (λ item. item) items.items
level_step (Node-F.Pairs pairs) = array_encoding (λ pair. tuple_encoding
    (encoded (definite_string 3 (string_bytes pair.0)) ∷ pair.1 ∷ [])) pairs.items

abbrev pub level_item : Node → Encoding
level_item = fold-Node Encoding level_step
