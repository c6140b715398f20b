-- Keys of fields, among others, by the labels that they have.
use Rattle.std.proofs.Common.{◌≡◌, ◌≢◌, ◌-◌, ◌<◌, ◌≤◌, ℕ, zero, suc, List, [], ◌∷◌, length, take}
use Rattle.std.proofs.Common.{drop, get_or, refl, sym, ap, ◌∙◌, subst, arith, rules}
use Rattle.std.proofs.Math.Seq.{take-length}
use denote.Ref.{Bor}
use Rattle.cbor4ii.specs.FieldKey.{labels_by, same_name}
use Rattle.cbor4ii.specs.Names.{StandsAt}

-- the labels of names are these
pub labels_of_names : (names : List (Bor (List ℕ))) → labels_by same_name names ≡ names
labels_of_names [] = refl
labels_of_names (name ∷ names) = ap (λ ns. name ∷ ns) (labels_of_names names)

pub some_key : {K : Type 0} (keys : List K) → 1 ≤ length keys → K
some_key [] some = absurd (omega (arith, some))
some_key (own ∷ keys) some = own

module _ {K : Type 0} (label : K → Bor (List ℕ)) where
  -- the first, and those after it
  pub keys_split : (keys : List K) (d : K) → 1 ≤ length keys → labels_by label keys
      ≡ label (get_or keys 0 d) ∷ labels_by label (take (length keys - 1) (drop 1 keys))
  keys_split [] d some = absurd (omega (arith, some))
  keys_split (own ∷ keys) d some =
      let few : length (own ∷ keys) - 1 ≡ length keys = omega arith in
      ap (λ ks. label own ∷ labels_by label ks)
      (sym (ap (λ j. take j keys) few ∙ take-length keys))

  pub keys_none : (keys : List K) → length keys < 1 → labels_by label keys ≡ []
  keys_none [] less = refl
  keys_none (own ∷ keys) less = absurd (omega arith)

  pub is_first_key : (name : List ℕ) (keys : List K) (at : ℕ) (d : K) → 1 ≤ length keys → at ≤ 0
      → StandsAt name (labels_by label keys) at → name ≡ (label (get_or keys 0 d)).now
  is_first_key name [] at d some none h = absurd (omega (arith, some))
  is_first_key name (own ∷ keys) zero d some none h = h
  is_first_key name (own ∷ keys) (suc at) d some none h = absurd (omega (arith, none))

  pub is_after_key : (name : List ℕ) (keys : List K) (at : ℕ) (d : K) → 1 ≤ length keys → 0 < at
      → StandsAt name (labels_by label keys) at
      → (name ≢ (label (get_or keys 0 d)).now)
      × StandsAt name (labels_by label (take (length keys - 1) (drop 1 keys))) (at - 1)
  is_after_key name [] at d some more h = absurd (omega (arith, some))
  is_after_key name (own ∷ keys) zero d some more h = absurd (omega (arith, more))
  is_after_key name (own ∷ keys) (suc at) d some more h =
      let few : length (own ∷ keys) - 1 ≡ length keys = omega arith in
      let all : take (length (own ∷ keys) - 1) keys ≡ keys =
      ap (λ j. take j keys) few ∙ take-length keys in
      let less : suc at - 1 ≡ at = omega arith in (
        h.0,
        subst (StandsAt name (labels_by label (take (length (own ∷ keys) - 1) keys))) (sym less)
            (subst (λ ks. StandsAt name (labels_by label ks) at) (sym all) h.1),
      )

  -- ---- the place

  -- the keys before this place have other labels
  abbrev pub OtherKeys : List ℕ → List K → ℕ → Type 0
  OtherKeys name keys at = (j : ℕ) (d : K) → j < at → name ≢ (label (get_or keys j d)).now

  same_key : (keys : List K) (i : ℕ) (d e : K) → i < length keys → get_or keys i d ≡ get_or keys i e
  same_key [] i d e less = absurd (omega (arith, less))
  same_key (own ∷ keys) zero d e less = refl
  same_key (own ∷ keys) (suc i) d e less = same_key keys i d e (omega (arith, less))

  stands_by : (name : List ℕ) (keys : List K) (at : ℕ) → OtherKeys name keys at
      → at ≤ length keys
      → ((d : K) → at < length keys → name ≡ (label (get_or keys at d)).now)
      → StandsAt name (labels_by label keys) at
  stands_by name [] at others within same = tt
  stands_by name (own ∷ keys) zero others within same = same own (omega arith)
  stands_by name (own ∷ keys) (suc at) others within same = (
    others 0 own (omega arith),
    stands_by name keys at (λ j d less. others (suc j) d (omega (arith, less)))
        (omega (arith, within)) (λ d less. same d (omega (arith, less))),
  )

  -- one has the label
  pub stands_here : (name : List ℕ) (keys : List K) (at : ℕ) (d : K)
      → OtherKeys name keys at → at < length keys → name ≡ (label (get_or keys at d)).now
      → StandsAt name (labels_by label keys) at
  stands_here name keys at d others less is = search (rules, stands_by, same_key)

  -- none has
  pub stands_nowhere : (name : List ℕ) (keys : List K) (at : ℕ) → OtherKeys name keys at
      → at ≡ length keys → StandsAt name (labels_by label keys) (length keys)
  stands_nowhere name keys at others all = search (rules, stands_by)

-- ---- names

pub name_here : (name : List ℕ) (names : List (Bor (List ℕ))) (at : ℕ) (d : Bor (List ℕ))
    → OtherKeys same_name name names at → at < length names → name ≡ (get_or names at d).now
    → StandsAt name names at
name_here name names at d others less is =
    subst (λ ns. StandsAt name ns at) (labels_of_names names)
    (stands_here same_name name names at d others less is)

pub name_nowhere : (name : List ℕ) (names : List (Bor (List ℕ))) (at : ℕ)
    → OtherKeys same_name name names at → at ≡ length names → StandsAt name names (length names)
name_nowhere name names at others all =
    subst (λ ns. StandsAt name ns (length names)) (labels_of_names names)
    (stands_nowhere same_name name names at others all)
