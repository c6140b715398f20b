-- The canonical encoding of a value of the tree is one item.
use Rattle.std.proofs.Common.{◌≡◌, ℕ, suc, ◌^◌, ◌<◌, List, Bool, true, false, refl, ap, subst}
use Rattle.std.proofs.Common.{arith, ltb, ltb-true, pos, negsuc}
use Rattle.cbor4ii_items.specs.Head.{shortest_width}
use Rattle.cbor4ii_items.specs.Initial.{Sign, unsigned, negative, byte_string, text_string}
use Rattle.cbor4ii_items.specs.Initial.{simple_false, simple_true, simple_null}
use Rattle.cbor4ii_items.specs.Magnitude.{magnitude}
use Rattle.cbor4ii_items.specs.Laws.Heads.{if_cases}
use Rattle.cbor4ii_tree.specs.Basis.Tree.{array, map_of, count, pair_count}
use Rattle.cbor4ii_tree.specs.Basis.Item.{Item, null, boolean, integer, float, bytes_item, text}
use Rattle.cbor4ii_tree.specs.Basis.Item.{sequence}
use Rattle.cbor4ii_tree.specs.Basis.Item.{mapping, tag, Items, no_items, item, ItemPairs}
use Rattle.cbor4ii_tree.specs.Basis.Item.{no_item_pairs}
use Rattle.cbor4ii_tree.specs.Basis.Item.{item_pair, item_count, item_pair_count, IsItem, AreItems}
use Rattle.cbor4ii_tree.specs.Basis.Item.{AreItemPairs}
use Rattle.cbor4ii_tree.specs.Basis.Canonical.{canonical_encoding, canonical_tree, canonical_trees}
use Rattle.cbor4ii_tree.specs.Basis.Canonical.{canonical_pairs, integer_tree}
use Rattle.cbor4ii_tree.specs.Basis.Canonical.{sign_tag}
use Rattle.cbor4ii_ser.specs.OneItem.{Form, IsOfForm, OneItem, IsOneItem}
use Rattle.cbor4ii_ser.specs.Values.{unless, value_encoding, holds_tag}
use Rattle.cbor4ii_ser.specs.Laws.OneItem.{int_formed, string_formed, simple_formed, bits_formed}
use Rattle.cbor4ii_ser.specs.Laws.OneItem.{tag_formed, AreOfForm, none_formed, more_formed}
use Rattle.cbor4ii_ser.specs.Laws.OneItem.{array_formed, ArePairsOfForm, no_pairs_formed}
use Rattle.cbor4ii_ser.specs.Laws.OneItem.{more_pairs_formed, map_formed, length-magnitude}

count_canonical : (vs : Items) → count (canonical_trees vs) ≡ item_count vs
count_canonical no_items = refl
count_canonical (item v vs) = ap suc (count_canonical vs)

count_pairs : (ms : ItemPairs) → pair_count (canonical_pairs ms) ≡ item_pair_count ms
count_pairs no_item_pairs = refl
count_pairs (item_pair k v ms) = ap suc (count_pairs ms)

module _ (form : Form) where
  integer_formed : (s : Sign) (n : ℕ) → sign_tag s < 2 ^ 64 → IsOfForm form (integer_tree s n)
  integer_formed s n h =
      if_cases (IsOfForm form) (ltb n (2 ^ 64)) _ _
      (λ e. int_formed form s n (ltb-true n (2 ^ 64) e))
      (λ e. tag_formed form (sign_tag s) _ h
      (string_formed form byte_string (magnitude n) (length-magnitude form n) tt))

  mutual
    value_formed : (v : Item) → IsItem v → IsOfForm form (canonical_tree v)
    value_formed null h = simple_formed form simple_null (λ e. cc)
    value_formed (boolean false) h = simple_formed form simple_false (λ e. cc)
    value_formed (boolean true) h = simple_formed form simple_true (λ e. cc)
    value_formed (integer (pos n)) h = integer_formed unsigned n (omega arith)
    value_formed (integer (negsuc n)) h = integer_formed negative n (omega arith)
    value_formed (float p n) h = bits_formed form p n h
    value_formed (bytes_item bs) h = string_formed form byte_string bs h tt
    value_formed (text bs) h = string_formed form text_string bs h.0 h.1
    value_formed (sequence vs) h =
        subst (λ n. IsOfForm form (array (shortest_width n) (canonical_trees vs)))
        (count_canonical vs)
        (array_formed form (canonical_trees vs) (omega (arith, h.0, count_canonical vs))
        (values_formed vs h.1))
    value_formed (mapping ms) h =
        subst (λ n. IsOfForm form (map_of (shortest_width n) (canonical_pairs ms))) (count_pairs ms)
        (map_formed form (canonical_pairs ms) (omega (arith, h.0, count_pairs ms))
        (pairs_formed ms h.1))
    value_formed (tag n v) h = tag_formed form n (canonical_tree v) h.0 (value_formed v h.1)

    values_formed : (vs : Items) → AreItems vs → AreOfForm form (canonical_trees vs)
    values_formed no_items h = none_formed form
    values_formed (item v vs) h =
        more_formed form (canonical_tree v) (canonical_trees vs) (value_formed v h.0)
        (values_formed vs h.1)

    pairs_formed : (ms : ItemPairs) → AreItemPairs ms → ArePairsOfForm form (canonical_pairs ms)
    pairs_formed no_item_pairs h = no_pairs_formed form
    pairs_formed (item_pair k v ms) h =
        more_pairs_formed form (canonical_tree k) (canonical_tree v) (canonical_pairs ms)
        (value_formed k h.0)
        (value_formed v h.1) (pairs_formed ms h.2)

  unless_is_item : (fails_itself : Bool) (xs : List ℕ) → OneItem form xs
      → IsOneItem form (unless fails_itself xs)
  unless_is_item true xs p = tt
  unless_is_item false xs p = p

  -- a value in which no tag stands, as its canonical encoding
  pub value_is_item : (v : Item) → IsItem v → IsOneItem form (value_encoding v)
  value_is_item v h = unless_is_item (holds_tag v) (canonical_encoding v)
      (record { of_tree = canonical_tree v; formed = value_formed v h; bytes_are = refl })
