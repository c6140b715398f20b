-- Fields that are written from a list.
use Rattle.std.proofs.Common.{◌≡◌, ◌≤◌, ◌-◌, ℕ, suc, List, [], ◌∷◌, ◌++◌, length, take, drop}
use Rattle.std.proofs.Common.{get_or}
use Rattle.std.proofs.Common.{refl, ap, ◌∙◌, arith, rules}
use Rattle.std.proofs.Math.Seq.{take-length}
use Rattle.cbor4ii_ser.specs.Item.{encoded, one_then, parts}
use Rattle.cbor4ii_ser.specs.Listed.{NamedItems, StandsBeforeOthers, keyed_pairs, keyed_encoding}
use Rattle.cbor4ii_ser.specs.Listed.{labels_of}
use Rattle.cbor4ii_ser.specs.Listed.{◌▹◌}
use Rattle.cbor4ii_ser.specs.Laws.Joining.{items_append}
use Rattle.cbor4ii_items.specs.Numbers.{shortest_head}

pub entries_count : (key : List ℕ → List ℕ) (items : NamedItems)
    → length (keyed_pairs key items) ≡ length items
entries_count key [] = refl
entries_count key (part ∷ items) = ap suc (entries_count key items)

entries_append : (key : List ℕ → List ℕ) (first others : NamedItems)
    → keyed_pairs key (first ++ others) ≡ keyed_pairs key first ++ keyed_pairs key others
entries_append key [] others = refl
entries_append key (part ∷ first) others = search (rules, (entries_append key first others))

-- the head of as many pairs as there are
pub counted : (key : List ℕ → List ℕ) (items : NamedItems) (count : ℕ) → count ≡ length items
    → one_then (encoded (shortest_head 5 count)) (parts (keyed_pairs key items))
    ≡ keyed_encoding key items
counted key items count is = search (rules, entries_count)

module _ {P : Type 0} (first : P → List ℕ → NamedItems → NamedItems) (joins : StandsBeforeOthers
    first)
    (key : List ℕ → List ℕ) where
  first_then : (v : P) (label : List ℕ) (others : NamedItems)
      → one_then (parts (keyed_pairs key (first v label []))) (parts (keyed_pairs key others))
      ≡ parts (keyed_pairs key (first v label others))
  first_then v label others = search (rules, entries_append, items_append)

  -- a field, and those after it
  pub field_then : {K V : Type 0} (label : K → List ℕ) (others : V → List (List ℕ) → NamedItems)
      (v : P × V) (keys : List K) (d : K) → 1 ≤ length keys → d ≡ get_or keys 0 d
      → one_then (parts (keyed_pairs key (first v.0 (label d) [])))
      (parts (keyed_pairs key (others v.1
      (labels_of label (take (length keys - 1) (drop 1 keys))))))
      ≡ parts (keyed_pairs key ((first ▹ others) v (labels_of label keys)))
  field_then label others v [] d some is = absurd (omega (arith, some))
  field_then label others v (own ∷ keys) d some is =
      let few : length (own ∷ keys) - 1 ≡ length keys = omega arith in
      let all : take (length (own ∷ keys) - 1) keys ≡ keys =
      ap (λ j. take j keys) few ∙ take-length keys in
      ap (λ ks. one_then (parts (keyed_pairs key (first v.0 (label d) [])))
      (parts (keyed_pairs key (others v.1 (labels_of label ks))))) all
      ∙ (ap (λ k. one_then (parts (keyed_pairs key (first v.0 (label k) [])))
      (parts (keyed_pairs key (others v.1 (labels_of label keys))))) is
      ∙ first_then v.0 (label own) (others v.1 (labels_of label keys)))
