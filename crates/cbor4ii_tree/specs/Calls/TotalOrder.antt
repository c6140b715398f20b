-- An order of values in which equal ones alone tie: that of the lists of numbers that stand for
-- them. A value's list is the number of its kind, one number more, and what stands in it.
use Rattle.std.specs.Prelude.{◌≡◌, ◌⊎◌, ℕ, List, [], ◌∷◌, ◌++◌, Bool, true, false, length, pos}
use Rattle.std.specs.{Prelude.negsuc, Ordering.{is_lt, nat_cmp}, Cmp.Lexicographic.slice_cmp}
use denote.Ref.{Bor}
use Rattle.cbor4ii_items.specs.{Initial.{half, single, double}, SequenceBytes.pair_bytes}
use Rattle.cbor4ii_tree.specs.Basis.Item.{Item, null, boolean, integer, float, bytes_item, text}
use Rattle.cbor4ii_tree.specs.Basis.Item.{sequence, mapping, tag, Items, no_items, item, item_count}
use Rattle.cbor4ii_tree.specs.Basis.Item.{ItemPairs, no_item_pairs, item_pair, item_pair_count}
use Rattle.cbor4ii_tree.specs.{Basis.View.view, declared.value.Value.Value}

-- The kind's number goes with the sign of an integer and the width of a float.
-- Two numbers: the kind's, and the number that the value is, its length, its count or its tag.
abbrev pub parts_of : Item → ℕ × ℕ
parts_of null = (0, 0)
parts_of (boolean false) = (1, 0)
parts_of (boolean true) = (1, 1)
parts_of (integer (pos n)) = (2, n)
parts_of (integer (negsuc n)) = (3, n)
parts_of (float half n) = (4, n)
parts_of (float single n) = (5, n)
parts_of (float double n) = (6, n)
parts_of (bytes_item bs) = (7, length bs)
parts_of (text bs) = (8, length bs)
parts_of (sequence vs) = (9, item_count vs)
parts_of (mapping ms) = (10, item_pair_count ms)
parts_of (tag n v) = (11, n)

abbrev pub first_numbers : Item → List ℕ
first_numbers v = (parts_of v).0 ∷ (parts_of v).1 ∷ []

abbrev mutual
  pub inner_numbers : Item → List ℕ
  inner_numbers (bytes_item bs) = bs
  inner_numbers (text bs) = bs
  inner_numbers (sequence vs) = items_numbers vs
  inner_numbers (mapping ms) = pairs_numbers ms
  inner_numbers (tag n v) = first_numbers v ++ inner_numbers v
  inner_numbers _ = []

  pub items_numbers : Items → List ℕ
  items_numbers no_items = []
  items_numbers (item v vs) = (first_numbers v ++ inner_numbers v) ++ items_numbers vs

  pub pairs_numbers : ItemPairs → List ℕ
  pairs_numbers no_item_pairs = []
  pairs_numbers (item_pair k v ms) =
      ((first_numbers k ++ inner_numbers k) ++ (first_numbers v ++ inner_numbers v))
      ++ pairs_numbers ms

abbrev pub numbers : Item → List ℕ
numbers v = first_numbers v ++ inner_numbers v

-- the numbers of a value of the program
abbrev pub value_numbers : Value → List ℕ
value_numbers v = numbers (view v)

abbrev pub pair_numbers : Value × Value → List ℕ
pair_numbers = pair_bytes value_numbers value_numbers

-- ---- references to keys

-- what the value behind a reference stands for
abbrev pub item_behind : Bor Value → Item
item_behind key = view key.now

abbrev pub key_of : Value × Value → Item
key_of m = view m.0

-- one key is before another
abbrev pub is_before : Bor Value → Bor Value → Bool
is_before a b = is_lt (slice_cmp nat_cmp (numbers (item_behind a)) (numbers (item_behind b)))

-- one item of the list is this
abbrev pub IsOneOf : Item → List Item → Type 0
IsOneOf v [] = ⊥
IsOneOf v (w ∷ ws) = (w ≡ v) ⊎ IsOneOf v ws

-- two items of the list are equal
abbrev pub Repeats : List Item → Type 0
Repeats [] = ⊥
Repeats (v ∷ vs) = IsOneOf v vs ⊎ Repeats vs
