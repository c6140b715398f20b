-- Whether a tag stands in one of several values.
use Rattle.std.proofs.Common.{◌≡◌, ℕ, ◌+◌, ◌<◌, List, [], ◌∷◌, ◌++◌, length, take, drop, get_or}
use Rattle.std.proofs.Common.{Bool, true, false, ◌||◌, refl, sym, ap, ap₂, ◌∙◌, rules}
use Rattle.std.proofs.lemmas.List.{take_more, take-append-drop}
use Rattle.cbor4ii_tree.specs.Basis.View.{view, items_view, pairs_view}
use Rattle.cbor4ii_tree.specs.declared.value.Value.{Value}
use Rattle.cbor4ii_ser.specs.Values.{holds_tag, some_holds_tag, pairs_hold_tag}

or_true : (a : Bool) → (a || true) ≡ true
or_true true = refl
or_true false = refl

or_false : (a : Bool) → (a || false) ≡ a
or_false true = refl
or_false false = refl

or_assoc : (a b c : Bool) → ((a || b) || c) ≡ (a || (b || c))
or_assoc true b c = refl
or_assoc false b c = refl

module _ {V : Type 0} (test : V → Bool) where
  abbrev some : List V → Bool
  some [] = false
  some (v ∷ vs) = test v || some vs

  some_append : (us ws : List V) → some (us ++ ws) ≡ (some us || some ws)
  some_append [] ws = refl
  some_append (u ∷ us) ws = search (rules, or_assoc, (some_append us ws))

  some_more : (xs : List V) (i : ℕ) (x : V) → i < length xs → x ≡ get_or xs i x
      → some (take (i + 1) xs) ≡ (some (take i xs) || test x)
  some_more xs i x lt is =
      ap some (take_more xs i x lt)
      ∙ (some_append (take i xs) (get_or xs i x ∷ []) ∙ ap (λ z. some (take i xs) || z)
      (or_false (test (get_or xs i x)) ∙ ap test (sym is)))

  none_more : (xs : List V) (i : ℕ) (x : V) → i < length xs → x ≡ get_or xs i x
      → some (take i xs) ≡ false → test x ≡ false → some (take (i + 1) xs) ≡ false
  none_more xs i x lt is h k = some_more xs i x lt is ∙ ap₂ (λ a b. a || b) h k

  one_found : (xs : List V) (i : ℕ) (x : V) → i < length xs → x ≡ get_or xs i x → test x ≡ true
      → some xs ≡ true
  one_found xs i x lt is h =
      sym (ap some (take-append-drop (i + 1) xs))
      ∙ (some_append (take (i + 1) xs) (drop (i + 1) xs)
      ∙ ap (λ z. z || some (drop (i + 1) xs)) (some_more xs i x lt is
      ∙ (ap (λ z. some (take i xs) || z) h ∙ or_true (some (take i xs)))))

-- ---- values

items_some : (vs : List Value) → some_holds_tag (items_view vs) ≡ some (λ v. holds_tag (view v)) vs
items_some [] = refl
items_some (v ∷ vs) = ap (λ z. holds_tag (view v) || z) (items_some vs)

pub items_none : (xs : List Value) (i : ℕ) (x : Value) → i < length xs → x ≡ get_or xs i x
    → some_holds_tag (items_view (take i xs)) ≡ false → holds_tag (view x) ≡ false
    → some_holds_tag (items_view (take (i + 1) xs)) ≡ false
items_none xs i x lt is h k = search (rules, items_some, none_more)

pub items_found : (xs : List Value) (i : ℕ) (x : Value) → i < length xs → x ≡ get_or xs i x
    → holds_tag (view x) ≡ true → some_holds_tag (items_view xs) ≡ true
items_found xs i x lt is h = items_some xs ∙ one_found (λ v. holds_tag (view v)) xs i x lt is h

-- ---- pairs

pairs_some : (ms : List (Value × Value)) → pairs_hold_tag (pairs_view ms) ≡ some
    (λ m. holds_tag (view m.0) || holds_tag (view m.1)) ms
pairs_some [] = refl
pairs_some (m ∷ ms) = search (rules, (pairs_some ms))

module _ (xs : List (Value × Value)) (i : ℕ) (x : Value × Value) (lt : i < length xs)
    (is : x ≡ get_or xs i x) where
  pub pairs_none : pairs_hold_tag (pairs_view (take i xs)) ≡ false
      → holds_tag (view x.0) ≡ false → holds_tag (view x.1) ≡ false
      → pairs_hold_tag (pairs_view (take (i + 1) xs)) ≡ false
  pairs_none h k l = search (rules, pairs_some, none_more)

  pub key_found : holds_tag (view x.0) ≡ true → pairs_hold_tag (pairs_view xs) ≡ true
  key_found h = search (rules, pairs_some, one_found)

  pub value_found : holds_tag (view x.1) ≡ true → pairs_hold_tag (pairs_view xs) ≡ true
  value_found h = search (rules, pairs_some, one_found, or_true)
