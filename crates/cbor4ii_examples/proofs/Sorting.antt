-- Values with the pairs of each map in order: that they are in order, the same up to the order of
-- pairs, and one for all that are.
use Rattle.std.proofs.Common.{◌≡◌, ◌⊎◌, ℕ, zero, suc, inl, inr, Bool, true, false, cond, refl, sym}
use Rattle.std.proofs.Common.{ap, ap₂, ◌∙◌, subst}
use Rattle.std.proofs.lemmas.Cmp.{nat_list_cmp_total}
use Rattle.std.proofs.lemmas.List.Sorted.{ranks_by}
use Rattle.std.specs.Cmp.{IsStrictWeakOrder}
use Rattle.cbor4ii_tree.specs.Basis.Canonical.{canonical_encoding}
use Rattle.cbor4ii_tree.specs.Basis.Item.{Item, sequence, mapping, tag, Items, no_items, item}
use Rattle.cbor4ii_tree.specs.Basis.Item.{ItemPairs}
use Rattle.cbor4ii_tree.specs.Basis.Item.{no_item_pairs, item_pair, null, boolean, integer, float}
use Rattle.cbor4ii_tree.specs.Basis.Item.{bytes_item}
use Rattle.cbor4ii_tree.specs.Basis.Item.{text}
use Rattle.cbor4ii_examples.specs.Sorted.{key_below, with_pair, in_order, sort_of, sorted_items}
use Rattle.cbor4ii_examples.specs.Sorted.{sorted_pairs, EachMap, EachMapOfItems, EachMapOfPairs}
use Rattle.cbor4ii_examples.specs.Sorted.{IsNotAboveFirst, KeysInOrder, IsBelowFirst, KeysAscend}
use Rattle.cbor4ii_examples.specs.Sorted.{with_pair_at, SameUpToOrder, SameItems, SamePairs}

pub key_order : IsStrictWeakOrder key_below
key_order = ranks_by nat_list_cmp_total canonical_encoding

-- ---- in order

not_above_put : (k l v : Item) (ms : ItemPairs) → key_below k l ≡ false → IsNotAboveFirst l ms
    → IsNotAboveFirst l (with_pair k v ms)
not_above_put k l v no_item_pairs e h = e
not_above_put k l v (item_pair m w ms) e h = by (key_below m k)
  where
    by : (b : Bool)
        → IsNotAboveFirst l (cond b (item_pair m w (with_pair k v ms))
        (item_pair k v (item_pair m w ms)))
    by true = h
    by false = e

in_order_put : (k v : Item) (ms : ItemPairs) → KeysInOrder ms → KeysInOrder (with_pair k v ms)
in_order_put k v no_item_pairs h = (tt, tt)
in_order_put k v (item_pair l w ms) h = by (key_below l k) refl (in_order_put k v ms h.1)
  where
    by : (b : Bool) → key_below l k ≡ b → KeysInOrder (with_pair k v ms)
        → KeysInOrder (cond b (item_pair l w (with_pair k v ms)) (item_pair k v (item_pair l w ms)))
    by true e more = (not_above_put k l v ms (key_order.one_way l k e) h.0, more)
    by false e more = (e, h)

in_order_all : (ms : ItemPairs) → KeysInOrder (in_order ms)
in_order_all no_item_pairs = tt
in_order_all (item_pair k v ms) = in_order_put k v (in_order ms) (in_order_all ms)

-- ---- each map

module _ (P : ItemPairs → Type 0) where
  each_put : (k v : Item) (ms : ItemPairs) → EachMap P k → EachMap P v → EachMapOfPairs P ms
      → EachMapOfPairs P (with_pair k v ms)
  each_put k v no_item_pairs h i more = (h, i, tt)
  each_put k v (item_pair l w ms) h i more =
      by (key_below l k) (each_put k v ms h i more.2)
    where
      by : (b : Bool) → EachMapOfPairs P (with_pair k v ms)
          → EachMapOfPairs P (cond b (item_pair l w (with_pair k v ms))
          (item_pair k v (item_pair l w ms)))
      by true rest = (more.0, more.1, rest)
      by false rest = (h, i, more)

  -- of the pairs with one more, the new one and the others
  each_put_back : (k v : Item) (ms : ItemPairs) → EachMapOfPairs P (with_pair k v ms)
      → EachMap P k × EachMap P v × EachMapOfPairs P ms
  each_put_back k v no_item_pairs h = h
  each_put_back k v (item_pair l w ms) h = by (key_below l k) h (each_put_back k v ms)
    where
      by : (b : Bool)
          → EachMapOfPairs P (cond b (item_pair l w (with_pair k v ms))
          (item_pair k v (item_pair l w ms)))
          → (EachMapOfPairs P (with_pair k v ms) → EachMap P k × EachMap P v × EachMapOfPairs P ms)
          → EachMap P k × EachMap P v × EachMapOfPairs P (item_pair l w ms)
      by true i more = let rest = more i.2 in (rest.0, rest.1, (i.0, i.1, rest.2))
      by false i more = i

  each_in_order : (ms : ItemPairs) → EachMapOfPairs P ms → EachMapOfPairs P (in_order ms)
  each_in_order no_item_pairs h = tt
  each_in_order (item_pair k v ms) h =
      each_put k v (in_order ms) h.0 h.1 (each_in_order ms h.2)

mutual
  pub sorted_is_in_order : (v : Item) → EachMap KeysInOrder (sort_of v)
  sorted_is_in_order null = tt
  sorted_is_in_order (boolean b) = tt
  sorted_is_in_order (integer z) = tt
  sorted_is_in_order (float p n) = tt
  sorted_is_in_order (bytes_item bs) = tt
  sorted_is_in_order (text bs) = tt
  sorted_is_in_order (sequence vs) = items_are_in_order vs
  sorted_is_in_order (mapping ms) = (
    in_order_all (sorted_pairs ms),
    each_in_order KeysInOrder (sorted_pairs ms) (pairs_are_in_order ms),
  )
  sorted_is_in_order (tag n v) = sorted_is_in_order v

  items_are_in_order : (vs : Items) → EachMapOfItems KeysInOrder (sorted_items vs)
  items_are_in_order no_items = tt
  items_are_in_order (item v vs) = (sorted_is_in_order v, items_are_in_order vs)

  pairs_are_in_order : (ms : ItemPairs) → EachMapOfPairs KeysInOrder (sorted_pairs ms)
  pairs_are_in_order no_item_pairs = tt
  pairs_are_in_order (item_pair k v ms) =
      (sorted_is_in_order k, sorted_is_in_order v, pairs_are_in_order ms)

-- ---- the same up to the order

-- where a pair is put
placed : (k v : Item) (ms : ItemPairs) → (place : ℕ)
    × (with_pair_at place k v ms ≡ with_pair k v ms)
placed k v no_item_pairs = (zero, refl)
placed k v (item_pair l w ms) = by (key_below l k) (placed k v ms)
  where
    by : (b : Bool) → (place : ℕ) × (with_pair_at place k v ms ≡ with_pair k v ms)
        → (place : ℕ) × (with_pair_at place k v (item_pair l w ms)
        ≡ cond b (item_pair l w (with_pair k v ms)) (item_pair k v (item_pair l w ms)))
    by true more = (suc more.0, ap (item_pair l w) more.1)
    by false more = (zero, refl)

mutual
  pub sorted_is_same : (v : Item) → SameUpToOrder v (sort_of v)
  sorted_is_same null = refl
  sorted_is_same (boolean b) = refl
  sorted_is_same (integer z) = refl
  sorted_is_same (float p n) = refl
  sorted_is_same (bytes_item bs) = refl
  sorted_is_same (text bs) = refl
  sorted_is_same (sequence vs) = items_are_same vs
  sorted_is_same (mapping ms) = pairs_are_same ms
  sorted_is_same (tag n v) = (refl, sorted_is_same v)

  pub items_are_same : (vs : Items) → SameItems vs (sorted_items vs)
  items_are_same no_items = refl
  items_are_same (item v vs) = (sorted_is_same v, items_are_same vs)

  pub pairs_are_same : (ms : ItemPairs) → SamePairs ms (in_order (sorted_pairs ms))
  pairs_are_same no_item_pairs = refl
  pairs_are_same (item_pair k v ms) =
      let put = placed (sort_of k) (sort_of v) (in_order (sorted_pairs ms)) in (
        put.0,
        sort_of k,
        sort_of v,
        in_order (sorted_pairs ms),
        put.1,
        sorted_is_same k,
        sorted_is_same v,
        pairs_are_same ms,
      )

-- ---- one for all that are the same up to the order

-- one of the two is below the other
abbrev Apart : Item → Item → Type 0
Apart k l = (key_below k l ≡ true) ⊎ (key_below l k ≡ true)

-- the key is apart from each of these
abbrev Differs : Item → ItemPairs → Type 0
Differs k no_item_pairs = Unit {0}
Differs k (item_pair l w ms) = Apart k l × Differs k ms

-- no two keys are equal
abbrev AllDiffer : ItemPairs → Type 0
AllDiffer no_item_pairs = Unit {0}
AllDiffer (item_pair k v ms) = Differs k ms × AllDiffer ms

turned : (k l : Item) → Apart k l → Apart l k
turned k l (inl e) = inr e
turned k l (inr e) = inl e

below_trans : (k l m : Item) → key_below k l ≡ true → key_below l m ≡ true → key_below k m ≡ true
below_trans k l m e f = by (key_below k m) refl
  where
    by : (b : Bool) → key_below k m ≡ b → key_below k m ≡ true
    by true g = g
    by false g =
        let no : key_below k l ≡ false = key_order.chain k m l g (key_order.one_way l m f) in cc

below_all : (k l : Item) (ms : ItemPairs) → key_below k l ≡ true → IsBelowFirst l ms → KeysAscend ms
    → Differs k ms
below_all k l no_item_pairs e h u = tt
below_all k l (item_pair m w ms) e h u =
    let next = below_trans k l m e h in (inl next, below_all k m ms next u.0 u.1)

ascending_differ : (ms : ItemPairs) → KeysAscend ms → AllDiffer ms
ascending_differ no_item_pairs u = tt
ascending_differ (item_pair k v no_item_pairs) u = (tt, tt)
ascending_differ (item_pair k v (item_pair l w ms)) u =
    ((inl u.0, below_all k l ms u.0 u.1.0 u.1.1), ascending_differ (item_pair l w ms) u.1)

differs_put_back : (a k v : Item) (ms : ItemPairs) → Differs a (with_pair k v ms)
    → Apart a k × Differs a ms
differs_put_back a k v no_item_pairs h = h
differs_put_back a k v (item_pair l w ms) h = by (key_below l k) h (differs_put_back a k v ms)
  where
    by : (b : Bool)
        → Differs a (cond b (item_pair l w (with_pair k v ms)) (item_pair k v (item_pair l w ms)))
        → (Differs a (with_pair k v ms) → Apart a k × Differs a ms)
        → Apart a k × Differs a (item_pair l w ms)
    by true i more = let rest = more i.1 in (rest.0, (i.0, rest.1))
    by false i more = i

differ_put_back : (k v : Item) (ms : ItemPairs) → AllDiffer (with_pair k v ms)
    → Differs k ms × AllDiffer ms
differ_put_back k v no_item_pairs h = (tt, tt)
differ_put_back k v (item_pair l w ms) h = by (key_below l k) h (differ_put_back k v ms)
  where
    by : (b : Bool)
        → AllDiffer (cond b (item_pair l w (with_pair k v ms)) (item_pair k v (item_pair l w ms)))
        → (AllDiffer (with_pair k v ms) → Differs k ms × AllDiffer ms)
        → Differs k (item_pair l w ms) × AllDiffer (item_pair l w ms)
    by true i more =
        let rest = more i.1 in
        let here = differs_put_back l k v ms i.0 in
        ((turned l k here.0, rest.0), (here.1, rest.1))
    by false i more = (i.0, i.1)

put_past : (k v l w : Item) (ms : ItemPairs) → key_below l k ≡ true
    → with_pair k v (item_pair l w ms) ≡ item_pair l w (with_pair k v ms)
put_past k v l w ms e =
    ap (λ b. cond b (item_pair l w (with_pair k v ms)) (item_pair k v (item_pair l w ms))) e

put_here : (k v l w : Item) (ms : ItemPairs) → key_below l k ≡ false
    → with_pair k v (item_pair l w ms) ≡ item_pair k v (item_pair l w ms)
put_here k v l w ms e =
    ap (λ b. cond b (item_pair l w (with_pair k v ms)) (item_pair k v (item_pair l w ms))) e

-- what is not above one that is below a key is below it, too
below_by : (k l m : Item) → key_below m k ≡ true → key_below m l ≡ false → key_below l k ≡ true
below_by k l m e f = by (key_below l k) refl
  where
    by : (b : Bool) → key_below l k ≡ b → key_below l k ≡ true
    by true g = g
    by false g = let no : key_below m k ≡ false = key_order.chain m l k f g in cc

-- two pairs whose keys are apart are put in either order
puts_commute : (k v l w : Item) (ms : ItemPairs) → Apart k l
    → with_pair l w (with_pair k v ms) ≡ with_pair k v (with_pair l w ms)
puts_commute k v l w no_item_pairs (inl g) =
    put_past l w k v no_item_pairs g
    ∙ sym (put_here k v l w no_item_pairs (key_order.one_way k l g))
puts_commute k v l w no_item_pairs (inr g) =
    put_here l w k v no_item_pairs (key_order.one_way l k g)
    ∙ sym (put_past k v l w no_item_pairs g)
puts_commute k v l w (item_pair m x ms) a =
    by (key_below m k) refl (key_below m l) refl a (puts_commute k v l w ms a)
  where
    by : (b : Bool) → key_below m k ≡ b → (c : Bool) → key_below m l ≡ c → Apart k l
        → with_pair l w (with_pair k v ms) ≡ with_pair k v (with_pair l w ms)
        → with_pair l w (with_pair k v (item_pair m x ms))
        ≡ with_pair k v (with_pair l w (item_pair m x ms))
    by true e true f a more =
        ap (with_pair l w) (put_past k v m x ms e) ∙ put_past l w m x (with_pair k v ms) f
        ∙ ap (item_pair m x) more ∙ sym (ap (with_pair k v) (put_past l w m x ms f)
        ∙ put_past k v m x (with_pair l w ms) e)
    by true e false f a more =
        ap (with_pair l w) (put_past k v m x ms e) ∙ put_here l w m x (with_pair k v ms) f
        ∙ sym (ap (with_pair k v) (put_here l w m x ms f)
        ∙ put_past k v l w (item_pair m x ms) (below_by k l m e f)
        ∙ ap (item_pair l w) (put_past k v m x ms e))
    by false e true f a more =
        ap (with_pair l w) (put_here k v m x ms e)
        ∙ put_past l w k v (item_pair m x ms) (below_by l k m f e)
        ∙ ap (item_pair k v) (put_past l w m x ms f)
        ∙ sym (ap (with_pair k v) (put_past l w m x ms f) ∙ put_here k v m x (with_pair l w ms) e)
    by false e false f (inl g) more =
        ap (with_pair l w) (put_here k v m x ms e) ∙ put_past l w k v (item_pair m x ms) g
        ∙ ap (item_pair k v) (put_here l w m x ms f)
        ∙ sym (ap (with_pair k v) (put_here l w m x ms f)
        ∙ put_here k v l w (item_pair m x ms) (key_order.one_way k l g))
    by false e false f (inr g) more =
        ap (with_pair l w) (put_here k v m x ms e)
        ∙ put_here l w k v (item_pair m x ms) (key_order.one_way l k g)
        ∙ sym (ap (with_pair k v) (put_here l w m x ms f) ∙ put_past k v l w (item_pair m x ms) g
        ∙ ap (item_pair l w) (put_here k v m x ms e))

-- a pair whose key differs from all others is put in order wherever it stood
put_at : (place : ℕ) (l w : Item) (ms : ItemPairs) → Differs l (in_order ms)
    → in_order (with_pair_at place l w ms) ≡ with_pair l w (in_order ms)
put_at zero l w ms h = refl
put_at (suc i) l w no_item_pairs h = refl
put_at (suc i) l w (item_pair k v ms) h =
    let back = differs_put_back l k v (in_order ms) h in
    ap (with_pair k v) (put_at i l w ms back.1) ∙ puts_commute l w k v (in_order ms) back.0

sorted_at : (place : ℕ) (l w : Item) (ms : ItemPairs) → sorted_pairs (with_pair_at place l w ms)
    ≡ with_pair_at place (sort_of l) (sort_of w) (sorted_pairs ms)
sorted_at zero l w ms = refl
sorted_at (suc i) l w no_item_pairs = refl
sorted_at (suc i) l w (item_pair k v ms) = ap (item_pair (sort_of k) (sort_of v))
    (sorted_at i l w ms)

-- a pair more on both sides
one_pair_more : (k v : Item) (ms ns : ItemPairs) (place : ℕ) (l w : Item) (others : ItemPairs)
    → with_pair_at place l w others ≡ ns → sort_of k ≡ sort_of l → sort_of v ≡ sort_of w
    → in_order (sorted_pairs ms) ≡ in_order (sorted_pairs others)
    → Differs (sort_of k) (in_order (sorted_pairs ms))
    → in_order (sorted_pairs (item_pair k v ms)) ≡ in_order (sorted_pairs ns)
one_pair_more k v ms ns place l w others is key value rest differ =
    let unlike : Differs (sort_of l) (in_order (sorted_pairs others)) =
    subst (λ i. Differs i (in_order (sorted_pairs others))) key
    (subst (Differs (sort_of k)) rest differ) in
    let at : in_order (sorted_pairs ns)
    ≡ with_pair (sort_of l) (sort_of w) (in_order (sorted_pairs others)) =
    sym (ap (λ os. in_order (sorted_pairs os)) is) ∙ ap in_order (sorted_at place l w others)
    ∙ put_at place (sort_of l) (sort_of w) (sorted_pairs others) unlike in
    ap (λ i. with_pair i (sort_of v) (in_order (sorted_pairs ms))) key
    ∙ ap₂ (with_pair (sort_of l)) value rest ∙ sym at

mutual
  pub one_for_all : (v w : Item) → SameUpToOrder v w → EachMap KeysAscend (sort_of v)
      → sort_of v ≡ sort_of w
  one_for_all (sequence vs) (sequence ws) s u = ap sequence (one_for_items vs ws s u)
  one_for_all (mapping ms) (mapping ns) s u =
      ap mapping (one_for_pairs ms ns s (ascending_differ (in_order (sorted_pairs ms)) u.0) u.1)
  one_for_all (tag m v) (tag n w) s u = ap₂ tag s.0 (one_for_all v w s.1 u)
  one_for_all v w s u = ap sort_of s

  one_for_items : (vs ws : Items) → SameItems vs ws → EachMapOfItems KeysAscend (sorted_items vs)
      → sorted_items vs ≡ sorted_items ws
  one_for_items (item v vs) (item w ws) s u =
      ap₂ item (one_for_all v w s.0 u.0) (one_for_items vs ws s.1 u.1)
  one_for_items vs ws s u = ap sorted_items s

  one_for_pairs : (ms ns : ItemPairs) → SamePairs ms ns → AllDiffer (in_order (sorted_pairs ms))
      → EachMapOfPairs KeysAscend (in_order (sorted_pairs ms))
      → in_order (sorted_pairs ms) ≡ in_order (sorted_pairs ns)
  one_for_pairs no_item_pairs ns s d u = ap (λ ms. in_order (sorted_pairs ms)) s
  one_for_pairs (item_pair k v ms) ns s d u =
      let back = each_put_back KeysAscend (sort_of k) (sort_of v) (in_order (sorted_pairs ms)) u in
      let differ = differ_put_back (sort_of k) (sort_of v) (in_order (sorted_pairs ms)) d in
      one_pair_more k v ms ns s.0 s.1 s.2 s.3 s.4 (one_for_all k s.1 s.5 back.0)
      (one_for_all v s.2 s.6 back.1) (one_for_pairs ms s.3 s.7 differ.1 back.2) differ.0

-- ---- what is in order stays

kept : (ms : ItemPairs) → KeysAscend ms → in_order ms ≡ ms
kept no_item_pairs u = refl
kept (item_pair k v ms) u = ap (with_pair k v) (kept ms u.1) ∙ first ms u.0
  where
    first : (ms : ItemPairs) → IsBelowFirst k ms → with_pair k v ms ≡ item_pair k v ms
    first no_item_pairs h = refl
    first (item_pair l w ms) h = put_here k v l w ms (key_order.one_way k l h)

mutual
  pub in_order_is_sorted : (v : Item) → EachMap KeysAscend v → sort_of v ≡ v
  in_order_is_sorted null u = refl
  in_order_is_sorted (boolean b) u = refl
  in_order_is_sorted (integer z) u = refl
  in_order_is_sorted (float p n) u = refl
  in_order_is_sorted (bytes_item bs) u = refl
  in_order_is_sorted (text bs) u = refl
  in_order_is_sorted (sequence vs) u = ap sequence (items_in_order vs u)
  in_order_is_sorted (mapping ms) u =
      ap mapping (ap in_order (pairs_in_order ms u.1) ∙ kept ms u.0)
  in_order_is_sorted (tag n v) u = ap (tag n) (in_order_is_sorted v u)

  items_in_order : (vs : Items) → EachMapOfItems KeysAscend vs → sorted_items vs ≡ vs
  items_in_order no_items u = refl
  items_in_order (item v vs) u = ap₂ item (in_order_is_sorted v u.0) (items_in_order vs u.1)

  pairs_in_order : (ms : ItemPairs) → EachMapOfPairs KeysAscend ms → sorted_pairs ms ≡ ms
  pairs_in_order no_item_pairs u = refl
  pairs_in_order (item_pair k v ms) u =
      let key = in_order_is_sorted k u.0 in
      let value = in_order_is_sorted v u.1 in
      let rest = pairs_in_order ms u.2 in
      cc
