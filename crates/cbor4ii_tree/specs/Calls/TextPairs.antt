-- The pairs of a map whose keys are texts.
use denote.Ref.{Bor}
use Rattle.std.specs.Prelude.{ℕ, List, [], ◌∷◌}
use Rattle.cbor4ii_tree.specs.Basis.Item.{Item, text, ItemPairs, no_item_pairs, item_pair}
use Rattle.cbor4ii_tree.specs.Basis.View.{view, pairs_view}
use Rattle.cbor4ii_tree.specs.{declared.text_pairs.TextPairs.TextPairs, declared.value.Value.Value}

-- the text of each key that is one, with its value, in order, equal keys kept
abbrev pub text_pairs : ItemPairs → List (List ℕ × Item)
text_pairs no_item_pairs = []
text_pairs (item_pair (text key) v ms) = (key, v) ∷ text_pairs ms
text_pairs (item_pair _ v ms) = text_pairs ms

-- a key and its value as they are lent
abbrev pub text_pair_view : Bor (List ℕ) × Bor Value → List ℕ × Item
text_pair_view pair = (pair.0.now, view pair.1.now)

-- the text pairs that are to come
abbrev pub texts_to_come : TextPairs → List (List ℕ × Item)
texts_to_come pairs = text_pairs (pairs_view pairs.0.now)
