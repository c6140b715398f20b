-- What is written for a typed value: its item; or, of a value that is rejected, what stands before
-- that, and the words that say why.
use Rattle.std.specs.Prelude.{ℕ, List, [], ◌∷◌, ◌++◌, length, Option, None, Some}
use Rattle.cbor4ii_items.specs.Numbers.{shortest_head}
use Rattle.cbor4ii_items.specs.Strings.{definite_string}

-- The bytes are of an item (RFC 8949 section 1.2: encoded data item) or of a part of one.
-- All the bytes of a value, or those before the place where it is rejected and the error's words.
pub data Encoding : Type 0 where
  encoded : List ℕ → Encoding
  rejected : List ℕ → List ℕ → Encoding

-- what is written, wherever it ends
abbrev pub bytes_written : Encoding → List ℕ
bytes_written (encoded bytes) = bytes
bytes_written (rejected bytes words) = bytes

-- there is an item, and its bytes are such
abbrev pub IsEncodedAnd : Encoding → (List ℕ → Type 0) → Type 0
IsEncodedAnd (encoded bytes) P = P bytes
IsEncodedAnd (rejected bytes words) P = ⊥

-- where there is an item, its bytes are such
abbrev pub IfEncoded : Encoding → (List ℕ → Type 0) → Type 0
IfEncoded (encoded bytes) P = P bytes
IfEncoded (rejected bytes words) P = Unit {0}

-- the value is rejected, and the bytes before that and its words are such
abbrev pub IsRejectedAnd : Encoding → (List ℕ → List ℕ → Type 0) → Type 0
IsRejectedAnd (encoded bytes) P = ⊥
IsRejectedAnd (rejected bytes words) P = P bytes words

-- one after the other; nothing follows an error
unfoldable pub one_then : Encoding → Encoding → Encoding
one_then (rejected xs words) second = rejected xs words
one_then (encoded xs) (rejected ys words) = rejected (xs ++ ys) words
one_then (encoded xs) (encoded ys) = encoded (xs ++ ys)

-- ---- arrays

-- each value's item, in order
abbrev pub each_encoding : {V : Type 0} → (V → Encoding) → List V → Encoding
each_encoding item [] = encoded []
each_encoding item (v ∷ vs) = one_then (item v) (each_encoding item vs)

-- parts, one after another
abbrev pub parts : List Encoding → Encoding
parts = each_encoding (λ part. part)

-- an array of so many parts (RFC 8949 section 3.1)
abbrev pub tuple_encoding : List Encoding → Encoding
tuple_encoding ps = one_then (encoded (shortest_head 4 (length ps))) (parts ps)

-- an array of values
abbrev pub array_encoding : {V : Type 0} → (V → Encoding) → List V → Encoding
array_encoding item vs = one_then (encoded (shortest_head 4 (length vs))) (each_encoding item vs)

-- ---- maps

-- a key, and its value after it
abbrev pub pair_encoding : {K V : Type 0} → (K → Encoding) → (V → Encoding) → (K × V) → Encoding
pair_encoding key value entry = one_then (key entry.0) (value entry.1)

-- a map of keys to values, in the order of the list
abbrev pub map_encoding : {K V : Type 0} → (K → Encoding) → (V → Encoding) → List (K × V) → Encoding
map_encoding key value entries =
    one_then (encoded (shortest_head 5 (length entries))) (each_encoding (pair_encoding key value)
    entries)

-- a name as a text, and its value after it
abbrev pub field : List ℕ → Encoding → Encoding
field name value = one_then (encoded (definite_string 3 name)) value

-- a map of so many fields
abbrev pub struct_encoding : List Encoding → Encoding
struct_encoding fields = one_then (encoded (shortest_head 5 (length fields))) (parts fields)

-- ---- options and variants

-- null, or the value's item
abbrev pub option_encoding : {V : Type 0} → (V → Encoding) → Option V → Encoding
option_encoding item None = encoded (0xf6 ∷ [])
option_encoding item (Some v) = item v

-- what begins a variant that has content: a map of one pair, whose key is the variant's name
abbrev pub variant_head : List ℕ → List ℕ
variant_head name = shortest_head 5 1 ++ definite_string 3 name

-- a variant that has content
abbrev pub variant_encoding : List ℕ → Encoding → Encoding
variant_encoding name content = one_then (encoded (variant_head name)) content

-- a variant whose content is an array of so many parts
abbrev pub tuple_variant_encoding : List ℕ → List Encoding → Encoding
tuple_variant_encoding name ps =
    one_then (encoded (variant_head name ++ shortest_head 4 (length ps))) (parts ps)

-- a variant whose content is a map of so many fields
abbrev pub struct_variant_encoding : List ℕ → List Encoding → Encoding
struct_variant_encoding name fields =
    one_then (encoded (variant_head name ++ shortest_head 5 (length fields))) (parts fields)
