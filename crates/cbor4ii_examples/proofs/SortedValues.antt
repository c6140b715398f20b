-- Values of the program that are sorted in place, one after another.
use Rattle.std.proofs.Common.{◌≡◌, ◌⊎◌, ℕ, zero, suc, ◌+◌, ◌<◌, ◌≤◌, List, [], ◌∷◌, ◌++◌, length}
use Rattle.std.proofs.Common.{take, get_or, set, inl, inr, refl, sym, ap, ◌∙◌, arith, Bool, true}
use Rattle.std.proofs.Common.{false, cond, ◌↔◌, IsTrue, subst, Vec, Global, rules, drop, ltb}
use Rattle.std.proofs.Common.{ltb-true, ltb-false}
use Rattle.std.proofs.lemmas.List.{append-nil, take_all, take_more, take_more_set}
use Rattle.std.proofs.Math.Seq.{drop-length}
use Rattle.std.specs.Cmp.{IsStrictWeakOrder}
use Rattle.std.specs.Cmp.Lexicographic.{slice_cmp}
use Rattle.std.specs.List.{AllAdjacentBelow, IsAllAdjacentAnswer}
use Rattle.std.specs.List.Sorted.{IsSortedBy, IsStableBy}
use Rattle.std.specs.Ordering.{is_lt, nat_cmp}
use Rattle.std.specs.declared.cmp.Ordering.{Ordering}
use Rattle.cbor4ii_tree.specs.Calls.Access.{HasMapWith, SomeHasMapWith, PairHasMapWith}
use Rattle.cbor4ii_tree.specs.Basis.Item.{Item, sequence, mapping, tag, Items, no_items, item}
use Rattle.cbor4ii_tree.specs.Basis.Item.{ItemPairs}
use Rattle.cbor4ii_tree.specs.Basis.Item.{no_item_pairs, item_pair, null, boolean, integer, float}
use Rattle.cbor4ii_tree.specs.Basis.Item.{bytes_item}
use Rattle.cbor4ii_tree.specs.Basis.Item.{text, item_pair_count, size, size_all, size_pairs}
use Rattle.cbor4ii_tree.specs.Basis.View.{view, items_view, pairs_view}
use Rattle.cbor4ii_tree.specs.Basis.Canonical.{canonical_encoding}
use Rattle.cbor4ii_tree.specs.declared.value.Value.{Value, Map, the_lemmas}
use Rattle.cbor4ii_examples.specs.Sorted.{key_below, with_pair, in_order, sort_of, sorted_items}
use Rattle.cbor4ii_examples.specs.Sorted.{sorted_pairs, SameUpToOrder, SameItems, SamePairs}
use Rattle.cbor4ii_examples.specs.Sorted.{EachMap, EachMapOfPairs, KeysAscend}
use Rattle.cbor4ii_examples.proofs.{Sorting.key_order, StableSort.{put, put_all, stable_sort}}

pub pair_count-pairs_view : (ms : List (Value × Value))
    → item_pair_count (pairs_view ms) ≡ length ms
pair_count-pairs_view [] = refl
pair_count-pairs_view (m ∷ ms) = ap suc (pair_count-pairs_view ms)

-- ---- each part is smaller than the whole

pub size-at : (vs : List Value) (i : ℕ) (d : Value) → i < length vs
    → size (view (get_or vs i d)) ≤ size_all (items_view vs)
size-at [] i d lt = absurd (omega arith)
size-at (v ∷ vs) zero d lt = omega arith
size-at (v ∷ vs) (suc i) d lt = omega (arith, size-at vs i d (omega arith))

pub sizes-at : (ms : List (Value × Value)) (i : ℕ) (d : Value × Value) → i < length ms
    → size (view (get_or ms i d).0) + size (view (get_or ms i d).1)
    ≤ size_pairs (pairs_view ms)
sizes-at [] i d lt = absurd (omega arith)
sizes-at (m ∷ ms) zero d lt = omega arith
sizes-at (m ∷ ms) (suc i) d lt = omega (arith, sizes-at ms i d (omega arith))

-- ---- one value more is sorted: y stands at the place of x

items-push : (vs ws : List Value) (v w : Value) → items_view vs ≡ sorted_items (items_view ws)
    → view v ≡ sort_of (view w)
    → items_view (vs ++ v ∷ []) ≡ sorted_items (items_view (ws ++ w ∷ []))
items-push [] [] v w h e = ap (λ x. item x no_items) e
items-push [] (x ∷ ws) v w h e = cc
items-push (x ∷ vs) [] v w h e = cc
items-push (x ∷ vs) (y ∷ ws) v w h e = cc (items-push vs ws v w (cc) e)

pairs-push : (ms ns : List (Value × Value)) (m n : Value × Value)
    → pairs_view ms ≡ sorted_pairs (pairs_view ns) → view m.0 ≡ sort_of (view n.0)
    → view m.1 ≡ sort_of (view n.1)
    → pairs_view (ms ++ m ∷ []) ≡ sorted_pairs (pairs_view (ns ++ n ∷ []))
pairs-push [] [] m n h e f = cc
pairs-push [] (x ∷ ns) m n h e f = cc
pairs-push (x ∷ ms) [] m n h e f = cc
pairs-push (x ∷ ms) (y ∷ ns) m n h e f = cc (pairs-push ms ns m n (cc) e f)

pub items_more : (xs zs : List Value) (i : ℕ) (x y : Value) → i < length xs → i < length zs
    → get_or xs i x ≡ get_or zs i x → items_view (take i xs) ≡ sorted_items (items_view (take i zs))
    → view y ≡ sort_of (view (get_or xs i x)) → items_view (take (i + 1) (set xs i y))
    ≡ sorted_items (items_view (take (i + 1) zs))
items_more xs zs i x y in_xs in_zs same h e =
    rw (take_more_set xs i y in_xs, take_more zs i x in_zs) (items-push (take i xs) (take i zs) y
    (get_or zs i x) h (e ∙ ap (λ v. sort_of (view v)) same))

pub pairs_more : (xs zs : List (Value × Value)) (i : ℕ) (x y : Value × Value) → i < length xs
    → i < length zs → get_or xs i x ≡ get_or zs i x
    → pairs_view (take i xs) ≡ sorted_pairs (pairs_view (take i zs))
    → view y.0 ≡ sort_of (view (get_or xs i x).0) → view y.1 ≡ sort_of (view (get_or xs i x).1)
    → pairs_view (take (i + 1) (set xs i y)) ≡ sorted_pairs (pairs_view (take (i + 1) zs))
pairs_more xs zs i x y in_xs in_zs same h e f =
    rw (take_more_set xs i y in_xs, take_more zs i x in_zs) (pairs-push (take i xs) (take i zs) y
    (get_or zs i x) h (e ∙ ap (λ (m : Value × Value). sort_of (view m.0)) same) (f ∙ ap
    (λ (m : Value × Value). sort_of (view m.1)) same))

-- ---- the same up to the order

mutual
  pub same_as_itself : (v : Item) → SameUpToOrder v v
  same_as_itself null = refl
  same_as_itself (boolean b) = refl
  same_as_itself (integer z) = refl
  same_as_itself (float p n) = refl
  same_as_itself (bytes_item bs) = refl
  same_as_itself (text bs) = refl
  same_as_itself (sequence vs) = items_as_themselves vs
  same_as_itself (mapping ms) = pairs_as_themselves ms
  same_as_itself (tag n v) = (refl, same_as_itself v)

  pub items_as_themselves : (vs : Items) → SameItems vs vs
  items_as_themselves no_items = refl
  items_as_themselves (item v vs) = (same_as_itself v, items_as_themselves vs)

  pairs_as_themselves : (ms : ItemPairs) → SamePairs ms ms
  pairs_as_themselves no_item_pairs = refl
  pairs_as_themselves (item_pair k v ms) =
      (zero, k, v, ms, refl, same_as_itself k, same_as_itself v, pairs_as_themselves ms)

pub items_set : (zs xs : List Value) (i : ℕ) (d y : Value) → i < length zs
    → SameItems (items_view zs) (items_view xs) → SameUpToOrder (view (get_or zs i d)) (view y)
    → SameItems (items_view zs) (items_view (set xs i y))
items_set [] xs i d y lt h e = absurd (omega arith)
items_set (z ∷ zs) [] i d y lt h e = cc
items_set (z ∷ zs) (x ∷ xs) zero d y lt h e = (e, h.1)
items_set (z ∷ zs) (x ∷ xs) (suc i) d y lt h e = (h.0, items_set zs xs i d y (omega arith) h.1 e)

-- the pairs at each place are the same up to the order in them
abbrev pub SameInPlace : List (Value × Value) → List (Value × Value) → Type 0
SameInPlace [] [] = Unit {0}
SameInPlace (m ∷ ms) (n ∷ ns) =
    SameUpToOrder (view m.0) (view n.0) × SameUpToOrder (view m.1) (view n.1) × SameInPlace ms ns
SameInPlace ms ns = ⊥

pub all_in_place : (ms : List (Value × Value)) → SameInPlace ms ms
all_in_place [] = tt
all_in_place (m ∷ ms) = (same_as_itself (view m.0), same_as_itself (view m.1), all_in_place ms)

pub pairs_set : (zs xs : List (Value × Value)) (i : ℕ) (d y : Value × Value) → i < length zs
    → SameInPlace zs xs → SameUpToOrder (view (get_or zs i d).0) (view y.0)
    → SameUpToOrder (view (get_or zs i d).1) (view y.1) → SameInPlace zs (set xs i y)
pairs_set [] xs i d y lt h e f = absurd (omega arith)
pairs_set (z ∷ zs) [] i d y lt h e f = absurd h
pairs_set (z ∷ zs) (x ∷ xs) zero d y lt h e f = (e, f, h.2)
pairs_set (z ∷ zs) (x ∷ xs) (suc i) d y lt h e f =
    (h.0, h.1, pairs_set zs xs i d y (omega arith) h.2 e f)

pub pairs_in_place : (ms ns : List (Value × Value)) → SameInPlace ms ns
    → SamePairs (pairs_view ms) (pairs_view ns)
pairs_in_place [] [] h = refl
pairs_in_place (m ∷ ms) (n ∷ ns) h =
    (zero, view n.0, view n.1, pairs_view ns, refl, h.0, h.1, pairs_in_place ms ns h.2)
pairs_in_place [] (n ∷ ns) h = absurd h
pairs_in_place (m ∷ ms) [] h = absurd h

-- ---- what one of them has

module _ (P : ItemPairs → Type 0) where
  pub some_at : (vs : List Value) (i : ℕ) (d : Value) → i < length vs
      → HasMapWith P (view (get_or vs i d)) → SomeHasMapWith P (items_view vs)
  some_at [] i d lt h = absurd (omega arith)
  some_at (v ∷ vs) zero d lt h = inl h
  some_at (v ∷ vs) (suc i) d lt h = inr (some_at vs i d (omega arith) h)

  pub pair_at : (ms : List (Value × Value)) (i : ℕ) (d : Value × Value) → i < length ms
      → HasMapWith P (view (get_or ms i d).0) ⊎ HasMapWith P (view (get_or ms i d).1)
      → PairHasMapWith P (pairs_view ms)
  pair_at [] i d lt h = absurd (omega arith)
  pair_at (m ∷ ms) zero d lt (inl h) = inl h
  pair_at (m ∷ ms) zero d lt (inr h) = inr (inl h)
  pair_at (m ∷ ms) (suc i) d lt h = inr (inr (pair_at ms i d (omega arith) h))

-- ---- pairs in the order of a stable sort

-- the key of one pair is below that of another
abbrev pub pair_below : Value × Value → Value × Value → Bool
pair_below m n = key_below (view m.0) (view n.0)

pub pair_order : IsStrictWeakOrder pair_below
pair_order = record {
  one_way = λ m n. key_order.one_way (view m.0) (view n.0);
  chain = λ l m n. key_order.chain (view l.0) (view m.0) (view n.0);
}

view_put : (m : Value × Value) (ms : List (Value × Value)) → pairs_view (put pair_below m ms)
    ≡ with_pair (view m.0) (view m.1) (pairs_view ms)
view_put m [] = refl
view_put m (n ∷ ns) = by (pair_below n m) (view_put m ns)
  where
    by : (b : Bool)
        → pairs_view (put pair_below m ns) ≡ with_pair (view m.0) (view m.1) (pairs_view ns)
        → pairs_view (cond b (n ∷ put pair_below m ns) (m ∷ n ∷ ns))
        ≡ cond b (item_pair (view n.0) (view n.1) (with_pair (view m.0) (view m.1) (pairs_view ns)))
        (item_pair (view m.0) (view m.1) (pairs_view (n ∷ ns)))
    by true e = ap (item_pair (view n.0) (view n.1)) e
    by false e = refl

view_put_all : (ms : List (Value × Value))
    → pairs_view (put_all pair_below ms) ≡ in_order (pairs_view ms)
view_put_all [] = refl
view_put_all (m ∷ ms) =
    view_put m (put_all pair_below ms) ∙ ap (with_pair (view m.0) (view m.1)) (view_put_all ms)

pub sorted_by_keys : (ms ns : List (Value × Value)) → IsSortedBy pair_below ns
    → IsStableBy pair_below ms ns → pairs_view ns ≡ in_order (pairs_view ms)
sorted_by_keys ms ns up stable =
    ap pairs_view (stable_sort pair_below pair_order ms ns up stable) ∙ view_put_all ms

-- what a comparison of two keys answers
pub answered : (r : Ordering) (m n : Value × Value) → r ≡ slice_cmp nat_cmp
    (canonical_encoding (view m.0)) (canonical_encoding (view n.0)) → is_lt r ≡ pair_below m n
answered r m n e = ap is_lt e

-- ---- whether each key is below the next one

ascend_from : (ms : List (Value × Value))
    → AllAdjacentBelow (λ m n. true ≡ pair_below m n) ms (length ms) → KeysAscend (pairs_view ms)
ascend_from [] h = tt
ascend_from (m ∷ []) h = (tt, tt)
ascend_from (m ∷ n ∷ ms) h = (sym (h 0 m (omega arith)), ascend_from (n ∷ ms) next)
  where
    next : AllAdjacentBelow (λ m n. true ≡ pair_below m n) (n ∷ ms) (length (n ∷ ms))
    next k d lt =
        let same : suc k + 1 ≡ suc (k + 1) = omega arith in
        subst (λ j. true ≡ pair_below (get_or (n ∷ ms) k d) (get_or (m ∷ n ∷ ms) j d)) same
        (h (suc k) d (omega arith))

ascend_to : (ms : List (Value × Value)) (k : ℕ) (d : Value × Value) → k + 1 < length ms
    → KeysAscend (pairs_view ms) → pair_below (get_or ms k d) (get_or ms (k + 1) d) ≡ true
ascend_to [] k d lt h = absurd (omega arith)
ascend_to (m ∷ []) k d lt h = absurd (omega arith)
ascend_to (m ∷ n ∷ ms) zero d lt h = h.0
ascend_to (m ∷ n ∷ ms) (suc k) d lt h =
    let same : suc (k + 1) ≡ suc k + 1 = omega arith in
    subst (λ j. pair_below (get_or (n ∷ ms) k d) (get_or (m ∷ n ∷ ms) j d) ≡ true) same
    (ascend_to (n ∷ ms) k d (omega arith) h.1)

pub ascending : (r : Bool) (ms : List (Value × Value))
    → IsAllAdjacentAnswer (λ m n b. b ≡ pair_below m n) ms r
    → IsTrue r ↔ KeysAscend (pairs_view ms)
ascending true ms h = (λ t. ascend_from ms h, λ u. refl)
ascending false [] h = absurd (omega (arith, h.1))
ascending false (m ∷ ms) h = (
  λ f. absurd (cc f),
  λ u. absurd (cc (h.2 m, ascend_to (m ∷ ms) h.0 m h.1 u)),
)

-- ---- a map

pub view-Map : (v : Vec (Value × Value) Global) → view (Map v) ≡ mapping (pairs_view v.items)
view-Map v = search (rules, the_lemmas)

pub map_ascends : (x : Value) (v : Vec (Value × Value) Global) → x ≡ Map v
    → EachMap KeysAscend (view x)
    ↔ (KeysAscend (pairs_view v.items) × EachMapOfPairs KeysAscend (pairs_view v.items))
map_ascends x v is =
    let whole : view x ≡ mapping (pairs_view v.items) = ap view is ∙ view-Map v in
    (λ h. subst (EachMap KeysAscend) whole h, λ h. subst (EachMap KeysAscend) (sym whole) h)

-- ---- memory

-- what a slice of all elements is written back as
pub written_back : (xs ys : List (Value × Value)) (n : ℕ) → length xs ≡ length ys → n ≡ length ys
    → take n (xs ++ drop (length xs) ys) ≡ xs
written_back xs ys n e f =
    let none : drop (length xs) ys ≡ [] = ap (λ k. drop k ys) e ∙ drop-length ys in
    ap (λ zs. take n (xs ++ zs)) none ∙ ap (take n) (append-nil xs) ∙ take_all n xs
    (omega (arith, e, f))

-- a sort that fails has more than 20 elements
pub is_over : (n : ℕ) → (n ≤ 20 → false ≡ true) → 20 < n
is_over n few = by (ltb 20 n) refl
  where
    by : (b : Bool) → ltb 20 n ≡ b → 20 < n
    by true e = ltb-true 20 n e
    by false e = let no = few (ltb-false 20 n e) in cc
