-- What is written for a value that holds no other value (RFC 8949 sections 3.1 and 3.3).
use Rattle.std.specs.Prelude.{ℕ, Bool, true, false, List, [], ◌∷◌}
use Rattle.cbor4ii_items.specs.Floats.{float_bytes}
use Rattle.cbor4ii_items.specs.Numbers.{shortest_head}
use Rattle.cbor4ii_items.specs.Simple.{bool_byte}
use Rattle.cbor4ii_items.specs.Strings.{definite_string}
use Rattle.cbor4ii_ser.specs.declared.leaf.Leaf.{Leaf}
use Rattle.cbor4ii_ser.specs.declared.leaf.Leaf.TheVariants.{Integer, Bytes, Text}
use Rattle.cbor4ii_ser.specs.declared.leaf.Leaf.TheVariants.{Bool as Logical, Null, F16, F32, F64}

-- the major type of a negative integer, or of one from 0 on
abbrev pub major_of_sign : Bool → ℕ
major_of_sign true = 1
major_of_sign false = 0

-- the bytes of a leaf's item
abbrev pub bytes_of_leaf : Leaf → List ℕ
bytes_of_leaf (Integer is_negative argument) = shortest_head (major_of_sign is_negative) argument
bytes_of_leaf (Bytes content) = definite_string 2 content.now
bytes_of_leaf (Text text) = definite_string 3 text.now
bytes_of_leaf (Logical v) = bool_byte v ∷ []
bytes_of_leaf Null = 0xf6 ∷ []
bytes_of_leaf (F16 bits) = float_bytes 0xf9 2 bits
bytes_of_leaf (F32 bits) = float_bytes 0xfa 4 bits
bytes_of_leaf (F64 bits) = float_bytes 0xfb 8 bits

-- whether a leaf is written by one push, as each is but strings
abbrev pub is_one_push : Leaf → Bool
is_one_push (Bytes content) = false
is_one_push (Text text) = false
is_one_push (Integer is_negative argument) = true
is_one_push (Logical v) = true
is_one_push Null = true
is_one_push (F16 bits) = true
is_one_push (F32 bits) = true
is_one_push (F64 bits) = true
