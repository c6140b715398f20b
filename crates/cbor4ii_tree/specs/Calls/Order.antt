-- How canonical encodings compare, byte by byte: by the heads that they begin with, and then by
-- what follows these.
use Rattle.std.specs.Prelude.{◌≡◌, ℕ, ◌+◌, ◌*◌, ◌^◌, ◌<◌, List, [], ◌++◌, true, false, length}
use Rattle.std.specs.{Prelude.{nat_lt, if◌then◌else◌, pos, negsuc}, declared.cmp.Ordering.Ordering}
use Rattle.std.specs.{Ordering.{nat_cmp, ordering_then}, Cmp.Lexicographic.slice_cmp}
use Rattle.cbor4ii_items.specs.{Head.{additional, shortest_width}, Initial.{Sign, unsigned}}
use Rattle.cbor4ii_items.specs.Initial.{negative, sign_major, precision_byte, precision_bytes}
use Rattle.cbor4ii_items.specs.Numbers.{definite_string}
use Rattle.cbor4ii_tree.specs.{Basis.Tree.{bytes_all, bytes_pairs}, Basis.Item.{Item, null}}
use Rattle.cbor4ii_tree.specs.Basis.Item.{boolean, integer, float, bytes_item, text, sequence}
use Rattle.cbor4ii_tree.specs.Basis.Item.{mapping, tag, Items, no_items, item_count, ItemPairs}
use Rattle.cbor4ii_tree.specs.Basis.Item.{no_item_pairs, item_pair_count}
use Rattle.cbor4ii_tree.specs.Basis.Canonical.{canonical_encoding, canonical_trees, canonical_pairs}
use Rattle.cbor4ii_tree.specs.Basis.Canonical.{magnitude, sign_tag}

-- Bytes s and t compare so, whatever follows each of them.
pub record Compares (order : Ordering) (s t : List ℕ) : Type 0 where
  pub before : (x y : List ℕ) → slice_cmp nat_cmp (s ++ x) (t ++ y)
      ≡ ordering_then order (slice_cmp nat_cmp x y)

-- ---- a head as its initial byte and its argument

abbrev pub shortest_parts : ℕ → ℕ → ℕ × ℕ
shortest_parts major n = (32 * major + additional (shortest_width n) n, n)

abbrev pub integer_parts : Sign → ℕ → ℕ × ℕ
integer_parts s n =
    if nat_lt n (2 ^ 64) then shortest_parts (sign_major s) n else shortest_parts 6 (sign_tag s)

-- the head that the canonical encoding of a value begins with
abbrev pub head_of : Item → ℕ × ℕ
head_of null = shortest_parts 7 22
head_of (boolean false) = shortest_parts 7 20
head_of (boolean true) = shortest_parts 7 21
head_of (integer (pos n)) = integer_parts unsigned n
head_of (integer (negsuc n)) = integer_parts negative n
head_of (float p n) = (precision_byte p, n)
head_of (bytes_item bs) = shortest_parts 2 (length bs)
head_of (text bs) = shortest_parts 3 (length bs)
head_of (sequence vs) = shortest_parts 4 (item_count vs)
head_of (mapping ms) = shortest_parts 5 (item_pair_count ms)
head_of (tag n v) = shortest_parts 6 n

-- the major type of the head that the canonical encoding of an integer begins with
abbrev pub integer_major : Sign → ℕ → ℕ
integer_major s n = if nat_lt n (2 ^ 64) then sign_major s else 6

abbrev pub major_of : Item → ℕ
major_of (integer (pos n)) = integer_major unsigned n
major_of (integer (negsuc n)) = integer_major negative n
major_of (bytes_item bs) = 2
major_of (text bs) = 3
major_of (sequence vs) = 4
major_of (mapping ms) = 5
major_of (tag n v) = 6
major_of _ = 7

-- the argument of the item has a head, as that of each value of the program does
abbrev pub HasHead : Item → Type 0
HasHead (float p n) = n < 256 ^ precision_bytes p
HasHead (bytes_item bs) = length bs < 2 ^ 64
HasHead (text bs) = length bs < 2 ^ 64
HasHead (sequence vs) = item_count vs < 2 ^ 64
HasHead (mapping ms) = item_pair_count ms < 2 ^ 64
HasHead (tag n v) = n < 2 ^ 64
HasHead _ = Unit {0}

-- what follows the head of an integer: nothing, or the bytes of a bignum
abbrev pub after_integer : ℕ → List ℕ
after_integer n = if nat_lt n (2 ^ 64) then [] else definite_string 2 (magnitude n)

-- what follows the head of a value
abbrev pub after_head : Item → List ℕ
after_head (integer (pos n)) = after_integer n
after_head (integer (negsuc n)) = after_integer n
after_head (bytes_item bs) = bs
after_head (text bs) = bs
after_head (sequence vs) = bytes_all (canonical_trees vs)
after_head (mapping ms) = bytes_pairs (canonical_pairs ms)
after_head (tag n v) = canonical_encoding v
after_head _ = []

-- ---- what stands in a value of one kind, and nothing of any other kind

abbrev pub content_of : Item → List ℕ
content_of (bytes_item bs) = bs
content_of (text bs) = bs
content_of _ = []

abbrev pub elements_of : Item → Items
elements_of (sequence vs) = vs
elements_of _ = no_items

abbrev pub pairs_of : Item → ItemPairs
pairs_of (mapping ms) = ms
pairs_of _ = no_item_pairs
