-- Values: how they are viewed and encoded, how they compare, keys that are equal, and integers
-- beyond 64 bits.
use Rattle.std.proofs.Common.{◌≡◌, ℕ, zero, suc, ◌<◌, List, [], ◌∷◌, ◌++◌, length, take, get_or}
use Rattle.std.proofs.Common.{◌+◌, refl, sym, ap, ◌∙◌, arith, ◌↔◌, Global, rules, Vec, Bool, true}
use Rattle.std.proofs.Common.{false, ℤ, append_assoc, Box, Option, Some, None, OnSome, ◌≢◌, cond}
use Rattle.std.proofs.Common.{ltb, pos, negsuc, ap₂, subst, append-nil, drop, subst₂, ◌-◌, ◌≤◌, map}
use Rattle.std.proofs.Common.{inl, inr, ⊎_elim, Bor, get_or-drop, length-drop, set, ltb-true}
use Rattle.std.proofs.{Common.◌⊎◌, lemmas.List.{take_more, get_or_default, drop_more}}
use Rattle.std.proofs.{lemmas.List.take_more_set, lemmas.Map.Lookups.exact_bytes}
use Rattle.std.proofs.lemmas.List.Sorted.{IsPermutation-map, IsPermutation-sym, sorted_far}
use Rattle.std.proofs.lemmas.List.Sorted.{sum_by-IsPermutation, ranks_by}
use Rattle.std.proofs.{lemmas.List.Sums.sum_by-cons, lemmas.Cmp.nat_list_cmp_total}
use Rattle.std.specs.{declared.cmp.Ordering.Ordering, declared.cmp.Ordering.TheVariants.Equal}
use Rattle.std.specs.{declared.cmp.Ordering.TheVariants.{Less, Greater}, Ordering.nat_cmp}
use Rattle.std.specs.Ordering.{is_lt, ordering_reverse}
use Rattle.std.specs.{Cmp.Lexicographic.slice_cmp, Cmp.IsStrictWeakOrder, List.sum_by}
use Rattle.std.specs.List.Sorted.{IsPermutation, IsSortedBy}
use Rattle.cbor4ii_items.specs.{SequenceBytes.items_bytes, Simple.bool_byte, Head.shortest_width}
use Rattle.cbor4ii_items.specs.{Head.head, Numbers.shortest_head, Initial.{half, single, double}}
use Rattle.cbor4ii_items.specs.{Initial.{Sign, unsigned, negative}, Laws.Heads.if_cases}
use Rattle.cbor4ii_items.specs.Laws.Heads.{shortest_fits}
use Rattle.cbor4ii_tree.specs.Basis.Item.{item_count, item_pair_count, mapping, ItemPairs, no_items}
use Rattle.cbor4ii_tree.specs.Basis.Item.{item, boolean, integer, sequence, tag, Item, null, float}
use Rattle.cbor4ii_tree.specs.Basis.Item.{bytes_item, text, Items, no_item_pairs, item_pair, size}
use Rattle.cbor4ii_tree.specs.{Basis.Item.{size_all, size_pairs}, Basis.View.{view, items_view}}
use Rattle.cbor4ii_tree.specs.{Basis.View.pairs_view, declared.value.Value.{Value, Map, the_lemmas}}
use Rattle.cbor4ii_tree.specs.declared.value.Value.{Bool as VBool, Integer, Array, Tag}
use Rattle.cbor4ii_tree.specs.Basis.Canonical.{canonical_encoding, canonical_trees, canonical_pairs}
use Rattle.cbor4ii_tree.specs.Basis.Canonical.{with_bignums, with_bignums_all, with_bignums_pairs}
use Rattle.cbor4ii_tree.specs.Basis.Canonical.{tagged_integer}
use Rattle.cbor4ii_tree.specs.{Calls.Encoding.{value_bytes, value_pair_bytes}, Basis.Tree.bytes_all}
use Rattle.cbor4ii_tree.specs.{Basis.Tree.{bytes_pairs}, Calls.TotalOrder.parts_of}
use Rattle.cbor4ii_tree.specs.Calls.TotalOrder.{first_numbers, inner_numbers, items_numbers}
use Rattle.cbor4ii_tree.specs.Calls.TotalOrder.{numbers, pairs_numbers, value_numbers, pair_numbers}
use Rattle.cbor4ii_tree.specs.Calls.TotalOrder.{IsOneOf, Repeats, is_before, key_of, item_behind}
use Rattle.cbor4ii_tree.specs.Calls.Order.{Compares, elements_of, pairs_of, head_of, after_head}
use Rattle.cbor4ii_tree.specs.{Calls.Access.{HasKey, HasEqualKeys, find_text}}
use Rattle.cbor4ii_tree.specs.{Calls.ItemEquality.{item_eq, item_eq-Decides}, Basis.Meaning.number}
use Rattle.cbor4ii_tree.proofs.encodings.CanonicalShape.{count-canonical_encoding, count-pairs}
use Rattle.cbor4ii_tree.proofs.encodings.CanonicalShape.{with_bignums-value}
use Rattle.cbor4ii_tree.proofs.encodings.Order.{compares_cons, compares_first, compares_nothing}
use Rattle.cbor4ii_tree.proofs.encodings.Order.{compares_then, heads_cmp, then-Equal, same_major}
use Rattle.cbor4ii_tree.proofs.encodings.Order.{after_array, after_map, compares_alone}

pub item_count-items_view : (vs : List Value) → item_count (items_view vs) ≡ length vs
item_count-items_view [] = refl
item_count-items_view (v ∷ vs) = ap suc (item_count-items_view vs)

pub pair_count-pairs_view : (ms : List (Value × Value))
    → item_pair_count (pairs_view ms) ≡ length ms
pair_count-pairs_view [] = refl
pair_count-pairs_view (m ∷ ms) = ap suc (pair_count-pairs_view ms)

pub length-items_view : (vs ws : List Value) → items_view vs ≡ items_view ws → length vs ≡ length ws
length-items_view vs ws e =
    sym (item_count-items_view vs) ∙ ap item_count e ∙ item_count-items_view ws

pub length-pairs_view : (ms ns : List (Value × Value)) → pairs_view ms ≡ pairs_view ns
    → length ms ≡ length ns
length-pairs_view ms ns e =
    sym (pair_count-pairs_view ms) ∙ ap item_pair_count e ∙ pair_count-pairs_view ns

pub view-Map : (v : Vec (Value × Value) Global) → view (Map v) ≡ mapping (pairs_view v.items)
view-Map v = search (rules, the_lemmas)

-- equal views at a place
pub view_at : (vs ws : List Value) (i : ℕ) (d e : Value) → items_view vs ≡ items_view ws
    → i < length vs → view (get_or vs i d) ≡ view (get_or ws i e)
view_at [] ws i d e h lt = absurd (omega arith)
view_at (v ∷ vs) (w ∷ ws) (suc i) d e h lt = view_at vs ws i d e (cc) (omega arith)
view_at (v ∷ vs) _ _ d e h lt = cc

pub items_view-push : (vs ws : List Value) (v w : Value) → items_view vs ≡ items_view ws
    → view v ≡ view w → items_view (vs ++ v ∷ []) ≡ items_view (ws ++ w ∷ [])
items_view-push [] [] v w h e = ap (λ x. item x no_items) e
items_view-push (x ∷ vs) (y ∷ ws) v w h e = cc (items_view-push vs ws v w (cc) e)
items_view-push _ _ v w h e = cc

pub views_at : (ms ns : List (Value × Value)) (i : ℕ) (d e : Value × Value)
    → pairs_view ms ≡ pairs_view ns → i < length ms
    → (view (get_or ms i d).0 ≡ view (get_or ns i e).0)
    × (view (get_or ms i d).1 ≡ view (get_or ns i e).1)
views_at [] ns i d e h lt = absurd (omega arith)
views_at (m ∷ ms) [] i d e h lt = cc
views_at (m ∷ ms) (n ∷ ns) zero d e h lt = (cc, cc)
views_at (m ∷ ms) (n ∷ ns) (suc i) d e h lt = views_at ms ns i d e (cc) (omega arith)

pub pairs_view-push : (ms ns : List (Value × Value)) (m n : Value × Value)
    → pairs_view ms ≡ pairs_view ns → view m.0 ≡ view n.0 → view m.1 ≡ view n.1
    → pairs_view (ms ++ m ∷ []) ≡ pairs_view (ns ++ n ∷ [])
pairs_view-push [] [] m n h e f = cc
pairs_view-push [] (x ∷ ns) m n h e f = cc
pairs_view-push (x ∷ ms) [] m n h e f = cc
pairs_view-push (x ∷ ms) (y ∷ ns) m n h e f = cc (pairs_view-push ms ns m n (cc) e f)

pub mapping_same : (a b : List (Value × Value)) (v w : Vec (Value × Value) Global) (x y : Value)
    → x ≡ Map v → y ≡ Map w → a ≡ v.items → b ≡ w.items
    → (pairs_view a ≡ pairs_view b) ↔ (view x ≡ view y)
mapping_same a b v w x y p q r s =
    let f : view x ≡ mapping (pairs_view a) =
    ap view p ∙ view-Map v ∙ ap (λ l. mapping (pairs_view l)) (sym r) in
    let g : view y ≡ mapping (pairs_view b) =
    ap view q ∙ view-Map w ∙ ap (λ l. mapping (pairs_view l)) (sym s) in
    (λ e. f ∙ ap mapping e ∙ sym g, λ e. mapping_injective (sym f ∙ e ∙ g))
  where
    mapping_injective : {m n : ItemPairs} → mapping m ≡ mapping n → m ≡ n
    mapping_injective e = cc

pub pairs_more : (a b : List (Value × Value)) (i : ℕ) (x y u v : Value × Value) → i < length a
    → i < length b → pairs_view (take i a) ≡ pairs_view (take i b)
    → view (get_or a i x).0 ≡ view (get_or b i y).0 → view (get_or a i u).1 ≡ view (get_or b i v).1
    → pairs_view (take (i + 1) a) ≡ pairs_view (take (i + 1) b)
pairs_more a b i x y u v in_a in_b h e f =
    rw (take_more a i x in_a, take_more b i y in_b) (pairs_view-push (take i a) (take i b)
    (get_or a i x) (get_or b i y) h e (ap (λ (m : Value × Value). view m.1) (get_or_default a i x u
    in_a) ∙ f ∙ ap (λ (m : Value × Value). view m.1) (get_or_default b i v y in_b)))

-- ---- calls that write, whose error is left elsewhere

pub on_some : {U P Q : Type 0} (r : Option U) → (P → Q) → OnSome r P → OnSome r Q
on_some (Some u) f p = f p
on_some None f p = tt

pub on_any_some : {U : Type 0} (r : Option U) → OnSome r (Unit {0})
on_any_some (Some u) = tt
on_any_some None = tt

-- ---- arrays and maps

pub items-canonical_encoding : (vs : List Value)
    → items_bytes value_bytes vs ≡ bytes_all (canonical_trees (items_view vs))
items-canonical_encoding [] = refl
items-canonical_encoding (v ∷ vs) = ap (λ z. value_bytes v ++ z) (items-canonical_encoding vs)

pub pairs-canonical_encoding : (ms : List (Value × Value))
    → items_bytes value_pair_bytes ms ≡ bytes_pairs (canonical_pairs (pairs_view ms))
pairs-canonical_encoding [] = refl
pairs-canonical_encoding (m ∷ ms) = search (rules, append_assoc, (pairs-canonical_encoding ms))

-- the shortest head with the count of the items, which is described in two ways
headed : (major n m k : ℕ) (xs ys : List ℕ) → n ≡ k → m ≡ k → xs ≡ ys
    → shortest_head major n ++ xs ≡ head major m (shortest_width k) ++ ys
headed major n m k xs ys e f g = rw (e, f, g) refl

-- ---- values

pub view-Bool : (b : Bool) → view (VBool b) ≡ boolean b
view-Bool b = search (rules, the_lemmas)

pub view-Array : (v : Vec Value Global) → view (Array v) ≡ sequence (items_view v.items)
view-Array v = search (rules, the_lemmas)

bool-canonical_encoding : (b : Bool) → bool_byte b ∷ [] ≡ canonical_encoding (boolean b)
bool-canonical_encoding false = refl
bool-canonical_encoding true = refl

pub Bool-bytes : (value : Value) (b : Bool) → value ≡ VBool b → bool_byte b ∷ [] ≡ value_bytes value
Bool-bytes value b e = bool-canonical_encoding b ∙ sym
    (ap canonical_encoding (ap view e ∙ view-Bool b))

pub Array-bytes : (value : Value) (v : Vec Value Global) (vs : List Value) → value ≡ Array v
    → vs ≡ v.items → shortest_head 4 (length vs) ++ items_bytes value_bytes vs ≡ value_bytes value
Array-bytes value v vs e same =
    search (rules, headed, item_count-items_view, count-canonical_encoding, items-canonical_encoding, view-Array)

pub Map-bytes : (value : Value) (v : Vec (Value × Value) Global) (ms : List (Value × Value))
    → value ≡ Map v → ms ≡ v.items
    → shortest_head 5 (length ms) ++ items_bytes value_pair_bytes ms ≡ value_bytes value
Map-bytes value v ms e same =
    search (rules, headed, pair_count-pairs_view, count-pairs, pairs-canonical_encoding, view-Map)

pub view-Integer : (z : ℤ) → view (Integer z) ≡ integer z
view-Integer z = search (rules, the_lemmas)

pub view-Tag : (n : ℕ) (b : Box Value Global) → view (Tag n b) ≡ tag n (view b.value)
view-Tag n b = search (rules, the_lemmas)

pub Tag-bytes : (value inner : Value) (n : ℕ) (b : Box Value Global) → value ≡ Tag n b
    → inner ≡ b.value → shortest_head 6 n ++ value_bytes inner ≡ value_bytes value
Tag-bytes value inner n b e same = search (rules, view-Tag)

-- ---- values whose encodings begin with equal heads

-- two lists of as many values, whose bytes follow the heads
pub record Alike {A : Type 0} (bytes : A → List ℕ) (xs ys : List A) (s t : List ℕ) : Type 0 where
  pub long : length xs ≡ length ys
  pub first : items_bytes bytes xs ≡ s
  pub second : items_bytes bytes ys ≡ t

pub arrays : (a b : Value) (v : Vec Value Global) (ys : List Value) → a ≡ Array v
    → items_view ys ≡ elements_of (view b) → head_of (view a) ≡ head_of (view b)
    → Alike value_bytes v.items ys (after_head (view a)) (after_head (view b))
arrays a b v ys is seen e =
    search (rules, view-Array, same_major, after_array, item_count-items_view, items-canonical_encoding)

pub maps : (a b : Value) (v : Vec (Value × Value) Global) (ns : List (Value × Value)) → a ≡ Map v
    → pairs_view ns ≡ pairs_of (view b) → head_of (view a) ≡ head_of (view b)
    → Alike value_pair_bytes v.items ns (after_head (view a)) (after_head (view b))
maps a b v ns is seen e =
    search (rules, view-Map, same_major, after_map, pair_count-pairs_view, pairs-canonical_encoding)

bytes_from : {A : Type 0} (bytes : A → List ℕ) (xs : List A) (i : ℕ) (x : A) → i < length xs
    → x ≡ get_or xs i x
    → items_bytes bytes (drop i xs) ≡ bytes x ++ items_bytes bytes (drop (i + 1) xs)
bytes_from bytes xs i x lt is = search (rules, drop_more)

-- at two that differ
pub compares_here : {A : Type 0} (bytes : A → List ℕ) (xs ys : List A) (i : ℕ) (x y : A)
    (r : Ordering) → i < length xs → i < length ys → x ≡ get_or xs i x → y ≡ get_or ys i y
    → r ≢ Equal → Compares r (bytes x) (bytes y)
    → Compares r (items_bytes bytes (drop i xs)) (items_bytes bytes (drop i ys))
compares_here bytes xs ys i x y r in_xs in_ys is are n here =
    subst₂ (Compares r) (sym (bytes_from bytes xs i x in_xs is))
    (sym (bytes_from bytes ys i y in_ys are)) (compares_first _ _ n here)

-- past two that are equal
pub compares_from : {A : Type 0} (bytes : A → List ℕ) (xs ys : List A) (i : ℕ) (x y : A)
    (r : Ordering) → i < length xs → i < length ys → x ≡ get_or xs i x → y ≡ get_or ys i y
    → Compares Equal (bytes x) (bytes y)
    → Compares r (items_bytes bytes (drop (i + 1) xs)) (items_bytes bytes (drop (i + 1) ys))
    → Compares r (items_bytes bytes (drop i xs)) (items_bytes bytes (drop i ys))
compares_from bytes xs ys i x y r in_xs in_ys is are here rest =
    subst₂ (Compares r) (sym (bytes_from bytes xs i x in_xs is))
    (sym (bytes_from bytes ys i y in_ys are)) (compares_then here rest)

-- ---- the first numbers, and then what stands inside

compares_parts : (p q : ℕ × ℕ) → Compares (heads_cmp p q) (p.0 ∷ p.1 ∷ []) (q.0 ∷ q.1 ∷ [])
compares_parts p q = search (rules, then-Equal, compares_cons, compares_nothing)

-- where they differ
pub other_parts : (v w : Item) (r : Ordering) → r ≡ heads_cmp (parts_of v) (parts_of w) → r ≢ Equal
    → Compares r (numbers v) (numbers w)
other_parts v w r e n =
    compares_first (inner_numbers v) (inner_numbers w) n
    (subst (λ o. Compares o (first_numbers v) (first_numbers w)) (sym e)
    (compares_parts (parts_of v) (parts_of w)))

-- where they are equal
pub same_parts : (v w : Item) (r : Ordering) → heads_cmp (parts_of v) (parts_of w) ≡ Equal
    → Compares r (inner_numbers v) (inner_numbers w) → Compares r (numbers v) (numbers w)
same_parts v w r e c = search (rules, compares_then, compares_parts)

-- ---- arrays and maps

items-numbers : (vs : List Value)
    → items_bytes value_numbers vs ≡ items_numbers (items_view vs)
items-numbers [] = refl
items-numbers (v ∷ vs) = ap (λ z. value_numbers v ++ z) (items-numbers vs)

pairs-numbers : (ms : List (Value × Value))
    → items_bytes pair_numbers ms ≡ pairs_numbers (pairs_view ms)
pairs-numbers [] = refl
pairs-numbers (m ∷ ms) = ap (λ z. pair_numbers m ++ z) (pairs-numbers ms)

inside_array : (v : Item) → (parts_of v).0 ≡ 9 → (item_count (elements_of v) ≡ (parts_of v).1)
    × (inner_numbers v ≡ items_numbers (elements_of v))
inside_array (sequence vs) e = (refl, refl)
inside_array (boolean false) e = absurd (omega arith)
inside_array (integer (pos n)) e = absurd (omega arith)
inside_array (float half n) e = absurd (omega arith)
inside_array _ e = absurd (omega arith)

inside_map : (v : Item) → (parts_of v).0 ≡ 10 → (item_pair_count (pairs_of v) ≡ (parts_of v).1)
    × (inner_numbers v ≡ pairs_numbers (pairs_of v))
inside_map (mapping ms) e = (refl, refl)
inside_map (boolean false) e = absurd (omega arith)
inside_map (integer (pos n)) e = absurd (omega arith)
inside_map (float half n) e = absurd (omega arith)
inside_map _ e = absurd (omega arith)

pub exact_arrays : (a b : Value) (v : Vec Value Global) (ys : List Value) → a ≡ Array v
    → items_view ys ≡ elements_of (view b) → parts_of (view a) ≡ parts_of (view b)
    → Alike value_numbers v.items ys (inner_numbers (view a)) (inner_numbers (view b))
exact_arrays a b v ys is seen e =
    search (rules, view-Array, inside_array, item_count-items_view, items-numbers)

pub exact_maps : (a b : Value) (v : Vec (Value × Value) Global) (ns : List (Value × Value))
    → a ≡ Map v → pairs_view ns ≡ pairs_of (view b) → parts_of (view a) ≡ parts_of (view b)
    → Alike pair_numbers v.items ns (inner_numbers (view a)) (inner_numbers (view b))
exact_maps a b v ns is seen e =
    search (rules, view-Map, inside_map, pair_count-pairs_view, pairs-numbers)

-- ---- values of equal numbers are equal

-- the number of a kind without an integer's sign and a float's width
abbrev kind_of : Item → ℕ
kind_of null = 0
kind_of (boolean b) = 1
kind_of (integer z) = 2
kind_of (float p n) = 3
kind_of (bytes_item bs) = 7
kind_of (text bs) = 8
kind_of (sequence vs) = 9
kind_of (mapping ms) = 10
kind_of (tag n v) = 11

abbrev without_width : ℕ → ℕ
without_width n = cond (ltb n 3) n (cond (ltb n 4) 2 (cond (ltb n 7) 3 n))

kind-parts : (v : Item) → without_width (parts_of v).0 ≡ kind_of v
kind-parts (boolean false) = refl
kind-parts (integer (pos n)) = refl
kind-parts (float half n) = refl
kind-parts _ = refl

split : (s t x y : List ℕ) → length s ≡ length t → s ++ x ≡ t ++ y → (s ≡ t) × (x ≡ y)
split [] [] x y n e = (refl, e)
split (b ∷ s) (c ∷ t) x y n e =
    let h = split s t x y (omega arith) (cc) in (ap₂ ◌∷◌ (cc) h.0, h.1)
split _ _ x y n e = absurd (omega arith)

-- lists that begin with equal numbers
record SameStart (v w : Item) (x y : List ℕ) : Type 0 where
  kind : kind_of v ≡ kind_of w
  first : (parts_of v).0 ≡ (parts_of w).0
  second : (parts_of v).1 ≡ (parts_of w).1
  rest : inner_numbers v ++ x ≡ inner_numbers w ++ y

same_start : (v w : Item) (x y : List ℕ) → numbers v ++ x ≡ numbers w ++ y → SameStart v w x y
same_start v w x y e = search (rules, kind-parts)

regroup : (a b c x : List ℕ) → ((a ++ b) ++ c) ++ x ≡ a ++ (b ++ (c ++ x))
regroup a b c x = append_assoc (a ++ b) c x ∙ append_assoc a b (c ++ x)

mutual
  same_inside : (v w : Item) (x y : List ℕ) → SameStart v w x y → (v ≡ w) × (x ≡ y)
  same_inside null null x y h = (refl, h.rest)
  same_inside (boolean false) (boolean false) x y h = (refl, h.rest)
  same_inside (boolean true) (boolean true) x y h = (refl, h.rest)
  same_inside (integer (pos m)) (integer (pos n)) x y h =
      (ap (λ i. integer (pos i)) h.second, h.rest)
  same_inside (integer (negsuc m)) (integer (negsuc n)) x y h =
      (ap (λ i. integer (negsuc i)) h.second, h.rest)
  same_inside (float half m) (float half n) x y h = (ap (float half) h.second, h.rest)
  same_inside (float single m) (float single n) x y h = (ap (float single) h.second, h.rest)
  same_inside (float double m) (float double n) x y h = (ap (float double) h.second, h.rest)
  same_inside (bytes_item bs) (bytes_item cs) x y h =
      let is = split bs cs x y h.second h.rest in (ap bytes_item is.0, is.1)
  same_inside (text bs) (text cs) x y h =
      let is = split bs cs x y h.second h.rest in (ap text is.0, is.1)
  same_inside (sequence vs) (sequence ws) x y h =
      let is = same_items vs ws x y h.second h.rest in (ap sequence is.0, is.1)
  same_inside (mapping ms) (mapping ns) x y h =
      let is = same_pairs ms ns x y h.second h.rest in (ap mapping is.0, is.1)
  same_inside (tag m v) (tag n w) x y h =
      let is = same_inside v w x y (same_start v w x y h.rest) in (ap₂ tag h.second is.0, is.1)
  same_inside _ _ x y h = absurd (omega (arith, h.kind, h.first, h.second))

  same_items : (vs ws : Items) (x y : List ℕ) → item_count vs ≡ item_count ws
      → items_numbers vs ++ x ≡ items_numbers ws ++ y → (vs ≡ ws) × (x ≡ y)
  same_items no_items no_items x y n e = (refl, e)
  same_items (item v vs) (item w ws) x y n e =
      let is = same_inside v w (items_numbers vs ++ x) (items_numbers ws ++ y) (same_start v w _ _
      (sym (append_assoc (numbers v) (items_numbers vs) x) ∙ e
      ∙ append_assoc (numbers w) (items_numbers ws) y)) in
      let rest = same_items vs ws x y (omega arith) is.1 in
      (ap₂ item is.0 rest.0, rest.1)
  same_items _ _ x y n e = absurd (omega arith)

  same_pairs : (ms ns : ItemPairs) (x y : List ℕ) → item_pair_count ms ≡ item_pair_count ns
      → pairs_numbers ms ++ x ≡ pairs_numbers ns ++ y → (ms ≡ ns) × (x ≡ y)
  same_pairs no_item_pairs no_item_pairs x y n e = (refl, e)
  same_pairs (item_pair k v ms) (item_pair l w ns) x y n e =
      let keys = same_inside k l (numbers v ++ (pairs_numbers ms ++ x))
      (numbers w ++ (pairs_numbers ns ++ y)) (same_start k l _ _
      (sym (regroup (numbers k) (numbers v) (pairs_numbers ms) x) ∙ e
      ∙ regroup (numbers l) (numbers w) (pairs_numbers ns) y)) in
      let values = same_inside v w (pairs_numbers ms ++ x) (pairs_numbers ns ++ y)
      (same_start v w _ _ keys.1) in
      let rest = same_pairs ms ns x y (omega arith) values.1 in
      (cc (keys.0, values.0, rest.0), rest.1)
  same_pairs _ _ x y n e = absurd (omega arith)

pub exact : (v w : Item) → slice_cmp nat_cmp (numbers v) (numbers w) ≡ Equal → v ≡ w
exact v w e =
    (same_inside v w [] [] (same_start v w [] [] (append-nil (numbers v) ∙ exact_bytes (numbers v)
    (numbers w) e ∙ sym (append-nil (numbers w))))).0

-- ---- the first pair of a map whose key is a text

false_from_not : (b : Bool) → ¬ (b ≡ true) → b ≡ false
false_from_not true n = absurd (n refl)
false_from_not false n = refl

-- the pairs from a place on are the one there and those after it
pairs_from : (ms : List (Value × Value)) (i : ℕ) (m : Value × Value) → i < length ms
    → m ≡ get_or ms i m
    → pairs_view (drop i ms) ≡ item_pair (view m.0) (view m.1) (pairs_view (drop (i + 1) ms))
pairs_from ms i m lt is =
    ap pairs_view (drop_more ms i m lt) ∙ ap (λ n. pairs_view (n ∷ drop (i + 1) ms)) (sym is)

pub find_text-here : (key : List ℕ) (ms : List (Value × Value)) (i : ℕ) (m : Value × Value)
    → i < length ms → m ≡ get_or ms i m → view m.0 ≡ text key
    → find_text key (pairs_view (drop i ms)) ≡ Some (view m.1)
find_text-here key ms i m lt is e =
    rw (pairs_from ms i m lt is, (item_eq-Decides (view m.0) (text key)).1 e) refl

pub find_text-past : (key : List ℕ) (ms : List (Value × Value)) (i : ℕ) (m : Value × Value)
    → i < length ms → m ≡ get_or ms i m → view m.0 ≢ text key
    → find_text key (pairs_view (drop i ms)) ≡ find_text key (pairs_view (drop (i + 1) ms))
find_text-past key ms i m lt is n =
    let other = false_from_not (item_eq (view m.0) (text key))
    (λ e. n ((item_eq-Decides (view m.0) (text key)).0 e)) in
    rw (pairs_from ms i m lt is, other) refl

-- ---- the keys of a map as a list

keys_among : (k : Item) (ms : List (Value × Value))
    → HasKey k (pairs_view ms) ↔ IsOneOf k (map key_of ms)
keys_among k [] = (λ h. h, λ h. h)
keys_among k (m ∷ ms) = search (rules, ⊎_elim, inl, inr, (keys_among k ms))

pub keys_repeat : (ms : List (Value × Value))
    → HasEqualKeys (pairs_view ms) ↔ Repeats (map key_of ms)
keys_repeat [] = (λ h. h, λ h. h)
keys_repeat (m ∷ ms) =
    let first = keys_among (key_of m) ms in
    let more = keys_repeat ms in (
      λ h. ⊎_elim (λ r. inl (first.0 r)) (λ r. inr (more.0 r)) h,
      λ h. ⊎_elim (λ r. inl (first.1 r)) (λ r. inr (more.1 r)) h,
    )

-- ---- how often a value is in a list, whatever the order

abbrev one_if : Bool → ℕ
one_if b = cond b 1 0

abbrev times : Item → List Item → ℕ
times v ws = sum_by (λ w. one_if (item_eq w v)) ws

times-cons : (v w : Item) (ws : List Item)
    → times v (w ∷ ws) ≡ one_if (item_eq w v) + times v ws
times-cons v w ws = sum_by-cons (λ x. one_if (item_eq x v)) w ws

times-same : (v w : Item) (ws : List Item) → w ≡ v → times v (w ∷ ws) ≡ 1 + times v ws
times-same v w ws e =
    times-cons v w ws ∙ ap (λ b. one_if b + times v ws) ((item_eq-Decides w v).1 e)

among_times : (v : Item) (ws : List Item) → IsOneOf v ws → 1 ≤ times v ws
among_times v [] h = absurd h
among_times v (w ∷ ws) (inl e) = omega (arith, times-same v w ws e)
among_times v (w ∷ ws) (inr h) = omega (arith, times-cons v w ws, among_times v ws h)

times_among : (v : Item) (ws : List Item) → 1 ≤ times v ws → IsOneOf v ws
times_among v [] h = absurd (omega arith)
times_among v (w ∷ ws) h = by (item_eq w v) refl (times_among v ws)
  where
    by : (b : Bool) → item_eq w v ≡ b → (1 ≤ times v ws → IsOneOf v ws) → IsOneOf v (w ∷ ws)
    by true e more = inl ((item_eq-Decides w v).0 e)
    by false e more =
        inr (more (omega (arith, h, times-cons v w ws ∙ ap (λ b. one_if b + times v ws) e)))

repeats_times : (ws : List Item) → Repeats ws → (v : Item) × (2 ≤ times v ws)
repeats_times [] h = absurd h
repeats_times (w ∷ ws) (inl h) = (w, omega (arith, times-same w w ws refl, among_times w ws h))
repeats_times (w ∷ ws) (inr h) =
    let more = repeats_times ws h in (more.0, omega (arith, more.1, times-cons more.0 w ws))

times_repeat : (v : Item) (ws : List Item) → 2 ≤ times v ws → Repeats ws
times_repeat v [] h = absurd (omega arith)
times_repeat v (w ∷ ws) h = by (item_eq w v) refl (times_repeat v ws)
  where
    by : (b : Bool) → item_eq w v ≡ b → (2 ≤ times v ws → Repeats ws) → Repeats (w ∷ ws)
    by true e more =
        let same = (item_eq-Decides w v).0 e in
        inl (rw same (times_among v ws (omega (arith, h, times-same v w ws same))))
    by false e more =
        inr (more (omega (arith, h, times-cons v w ws ∙ ap (λ b. one_if b + times v ws) e)))

moved : (vs ws : List Item) → IsPermutation vs ws → Repeats vs → Repeats ws
moved vs ws p h =
    let twice = repeats_times vs h in
    let same = sum_by-IsPermutation (λ w. one_if (item_eq w twice.0)) vs ws p in
    times_repeat twice.0 ws (omega (arith, same, twice.1))

-- keys in another order
pub repeats_moved : (xs ys : List (Bor Value)) → IsPermutation xs ys
    → Repeats (map item_behind xs) → Repeats (map item_behind ys)
repeats_moved xs ys p = moved (map item_behind xs) (map item_behind ys)
    (IsPermutation-map item_behind xs ys p)

-- ---- keys in the order of a sort

pub before_is_order : IsStrictWeakOrder is_before
before_is_order = ranks_by nat_list_cmp_total (λ key. numbers (item_behind key))

among_at : (v : Item) (xs : List (Bor Value)) → IsOneOf v (map item_behind xs)
    → (j : ℕ) × (j < length xs) × ((d : Bor Value) → item_behind (get_or xs j d) ≡ v)
among_at v [] h = absurd h
among_at v (x ∷ xs) (inl e) = (zero, omega arith, λ d. e)
among_at v (x ∷ xs) (inr h) =
    let rest = among_at v xs h in (suc rest.0, omega (arith, rest.1), rest.2)

-- neither is before the other
tie : (a b : List ℕ) → is_lt (slice_cmp nat_cmp a b) ≡ false
    → is_lt (slice_cmp nat_cmp b a) ≡ false → slice_cmp nat_cmp a b ≡ Equal
tie a b no_less no_more =
    by (slice_cmp nat_cmp a b) (slice_cmp nat_cmp b a) (nat_list_cmp_total.antisymm a b) no_less
    no_more
  where
    by : (r s : Ordering) → r ≡ ordering_reverse s → is_lt r ≡ false → is_lt s ≡ false → r ≡ Equal
    by Equal s e h l = refl
    by Less s e h l = cc
    by Greater Less e h l = cc
    by Greater Equal e h l = cc
    by Greater Greater e h l = cc

-- a key that is not equal to the next is equal to none that follow it
pub unlike_next : (keys : List (Bor Value)) (i : ℕ) (x y : Bor Value) → IsSortedBy is_before keys
    → 1 ≤ i → i < length keys → x ≡ get_or keys (i - 1) x → y ≡ get_or keys i y
    → item_behind x ≢ item_behind y
    → ¬ (IsOneOf (item_behind x) (map item_behind (drop i keys)))
unlike_next keys i x y up some lt is are n h =
    let found = among_at (item_behind x) (drop i keys) h in
    let j = i + found.0 in
    let within : j < length keys = omega (arith, found.1, length-drop i keys) in
    let same : item_behind (get_or keys j y) ≡ item_behind x =
    ap item_behind (sym (get_or-drop i keys found.0 y)) ∙ found.2 y in
    let far : is_before (get_or keys j y) (get_or keys i y) ≡ false =
    sorted_far is_before before_is_order keys up i j y (omega arith) within in
    let no_less : is_lt (slice_cmp nat_cmp (numbers (item_behind x)) (numbers (item_behind y)))
    ≡ false =
    sym (ap₂ (λ v w. is_lt (slice_cmp nat_cmp (numbers v) (numbers w))) same
    (ap item_behind (sym are)))
    ∙ far in
    let near : is_before (get_or keys i y) (get_or keys (i - 1) y) ≡ false =
    sorted_far is_before before_is_order keys up (i - 1) i y (omega arith) lt in
    let here : get_or keys (i - 1) y ≡ x =
    get_or_any keys (i - 1) y x (omega arith) ∙ sym is in
    let no_more : is_lt (slice_cmp nat_cmp (numbers (item_behind y)) (numbers (item_behind x)))
    ≡ false =
    sym (ap₂ (λ v w. is_lt (slice_cmp nat_cmp (numbers (item_behind v)) (numbers (item_behind w))))
    (sym are)
    here) ∙ near in
    n (exact (item_behind x) (item_behind y) (tie (numbers (item_behind x))
    (numbers (item_behind y)) no_less no_more))
  where
    get_or_any : (xs : List (Bor Value)) (k : ℕ) (d e : Bor Value) → k < length xs
        → get_or xs k d ≡ get_or xs k e
    get_or_any [] k d e lt = absurd (omega arith)
    get_or_any (x ∷ xs) zero d e lt = refl
    get_or_any (x ∷ xs) (suc k) d e lt = get_or_any xs k d e (omega arith)

-- the keys from a place on are the one there and those after it
pub keys_from : (keys : List (Bor Value)) (i : ℕ) (x : Bor Value) → 1 ≤ i → i < length keys
    → x ≡ get_or keys (i - 1) x
    → map item_behind (drop (i - 1) keys) ≡ item_behind x ∷ map item_behind (drop i keys)
keys_from keys i x some lt is = search (rules, drop_more)

-- fewer than two
pub repeats_short : (xs : List (Bor Value)) → length xs ≤ 1 → ¬ (Repeats (map item_behind xs))
repeats_short [] h r = r
repeats_short (x ∷ []) h (inl r) = r
repeats_short (x ∷ []) h (inr r) = r
repeats_short (x ∷ y ∷ xs) h r = absurd (omega arith)

-- past a key that is not equal to the next
pub repeats_past : (keys : List (Bor Value)) (i : ℕ) (x y : Bor Value) → IsSortedBy is_before keys
    → 1 ≤ i → i < length keys → x ≡ get_or keys (i - 1) x → y ≡ get_or keys i y
    → item_behind x ≢ item_behind y
    → Repeats (map item_behind (drop (i - 1) keys)) ↔ Repeats
    (map item_behind (drop (i + 1 - 1) keys))
repeats_past keys i x y up some lt is are n = search (rules, keys_from, ⊎_elim, unlike_next, inr)

-- ---- a map and its keys in order

pub sorted_keys : (ms : List (Value × Value)) (xs ys : List (Bor Value))
    → map item_behind xs ≡ map key_of ms → IsPermutation xs ys
    → HasEqualKeys (pairs_view ms) ↔ Repeats (map item_behind ys)
sorted_keys ms xs ys same p = (
  λ h. repeats_moved xs ys p (subst Repeats (sym same) ((keys_repeat ms).0 h)),
  λ h. (keys_repeat ms).1 (subst Repeats same (repeats_moved ys xs (IsPermutation-sym xs ys p) h)),
)

pub keys_short : (ms : List (Value × Value)) → length ms ≤ 1 → ¬ (HasEqualKeys (pairs_view ms))
keys_short [] h r = r
keys_short (m ∷ []) h (inl r) = r
keys_short (m ∷ []) h (inr r) = r
keys_short (m ∷ n ∷ ms) h r = absurd (omega arith)

-- what a comparison of two keys answers
pub before_by : (r : Ordering) (a b : Bor Value)
    → Compares r (value_numbers a.now) (value_numbers b.now) → is_lt r ≡ is_before a b
before_by r a b c = ap is_lt (compares_alone c)

items-push : (vs ws : List Value) (v w : Value)
    → items_view vs ≡ with_bignums_all (items_view ws) → view v ≡ with_bignums (view w)
    → items_view (vs ++ v ∷ []) ≡ with_bignums_all (items_view (ws ++ w ∷ []))
items-push [] [] v w h e = ap (λ x. item x no_items) e
items-push (x ∷ vs) (y ∷ ws) v w h e = cc (items-push vs ws v w (cc) e)
items-push _ _ v w h e = cc

pairs-push : (ms ns : List (Value × Value)) (m n : Value × Value)
    → pairs_view ms ≡ with_bignums_pairs (pairs_view ns)
    → view m.0 ≡ with_bignums (view n.0) → view m.1 ≡ with_bignums (view n.1)
    → pairs_view (ms ++ m ∷ []) ≡ with_bignums_pairs (pairs_view (ns ++ n ∷ []))
pairs-push [] [] m n h e f = cc
pairs-push [] (x ∷ ns) m n h e f = cc
pairs-push (x ∷ ms) [] m n h e f = cc
pairs-push (x ∷ ms) (y ∷ ns) m n h e f = cc (pairs-push ms ns m n (cc) e f)

-- one value more: y stands at the place of x
pub items_tagged : (xs zs : List Value) (i : ℕ) (x y : Value) → i < length xs → i < length zs
    → get_or xs i x ≡ get_or zs i x → items_view (take i xs) ≡ with_bignums_all
    (items_view (take i zs)) → view y ≡ with_bignums (view (get_or xs i x)) → items_view (take
    (i + 1) (set xs i y)) ≡ with_bignums_all (items_view (take (i + 1) zs))
items_tagged xs zs i x y in_xs in_zs same h e =
    rw (take_more_set xs i y in_xs, take_more zs i x in_zs) (items-push (take i xs) (take i zs) y
    (get_or zs i x) h (e ∙ ap (λ v. with_bignums (view v)) same))

pub pairs_tagged : (xs zs : List (Value × Value)) (i : ℕ) (x y : Value × Value) → i < length xs
    → i < length zs → get_or xs i x ≡ get_or zs i x → pairs_view (take i xs)
    ≡ with_bignums_pairs (pairs_view (take i zs))
    → view y.0 ≡ with_bignums (view (get_or xs i x).0)
    → view y.1 ≡ with_bignums (view (get_or xs i x).1) → pairs_view (take (i + 1) (set xs i y))
    ≡ with_bignums_pairs (pairs_view (take (i + 1) zs))
pairs_tagged xs zs i x y in_xs in_zs same h e f =
    rw (take_more_set xs i y in_xs, take_more zs i x in_zs) (pairs-push (take i xs) (take i zs) y
    (get_or zs i x) h (e ∙ ap (λ (m : Value × Value). with_bignums (view m.0)) same) (f ∙ ap
    (λ (m : Value × Value). with_bignums (view m.1)) same))

-- ---- integers beyond 64 bits

-- what changes one value changes all
pub items_change : (vs : List Value) (i : ℕ) (d : Value) → i < length vs
    → with_bignums (view (get_or vs i d)) ≢ view (get_or vs i d)
    → with_bignums_all (items_view vs) ≢ items_view vs
items_change [] i d lt n e = absurd (omega arith)
items_change (v ∷ vs) zero d lt n e = n (cc)
items_change (v ∷ vs) (suc i) d lt n e = items_change vs i d (omega arith) n (cc)

pub pairs_change : (ms : List (Value × Value)) (i : ℕ) (d : Value × Value) → i < length ms
    → (with_bignums (view (get_or ms i d).0) ≢ view (get_or ms i d).0)
    ⊎ (with_bignums (view (get_or ms i d).1) ≢ view (get_or ms i d).1)
    → with_bignums_pairs (pairs_view ms) ≢ pairs_view ms
pairs_change [] i d lt n e = absurd (omega arith)
pairs_change (m ∷ ms) zero d lt (inl n) e = n (cc)
pairs_change (m ∷ ms) zero d lt (inr n) e = n (cc)
pairs_change (m ∷ ms) (suc i) d lt n e = pairs_change ms i d (omega arith) n (cc)

-- ---- each part is smaller than the whole

pub size-at : (vs : List Value) (i : ℕ) (d : Value) → i < length vs
    → size (view (get_or vs i d)) ≤ size_all (items_view vs)
size-at [] i d lt = absurd (omega arith)
size-at (v ∷ vs) zero d lt = omega arith
size-at (v ∷ vs) (suc i) d lt = omega (arith, size-at vs i d (omega arith))

pub sizes-at : (ms : List (Value × Value)) (i : ℕ) (d : Value × Value) → i < length ms
    → size (view (get_or ms i d).0) + size (view (get_or ms i d).1)
    ≤ size_pairs (pairs_view ms)
sizes-at [] i d lt = absurd (omega arith)
sizes-at (m ∷ ms) zero d lt = omega arith
sizes-at (m ∷ ms) (suc i) d lt = omega (arith, sizes-at ms i d (omega arith))

-- ---- tags stay

tagged_integer-again : (s : Sign) (n : ℕ) → with_bignums (tagged_integer s n (integer (number s n)))
    ≡ tagged_integer s n (integer (number s n))
tagged_integer-again s n = search (rules, if_cases, with_bignums-value, shortest_fits, ltb-true)

mutual
  pub with_bignums-again : (v : Item) → with_bignums (with_bignums v) ≡ with_bignums v
  with_bignums-again (integer (pos n)) = tagged_integer-again unsigned n
  with_bignums-again (integer (negsuc n)) = tagged_integer-again negative n
  with_bignums-again (sequence vs) = ap sequence (with_bignums_all-again vs)
  with_bignums-again (mapping ms) = ap mapping (with_bignums_pairs-again ms)
  with_bignums-again (tag n v) = ap (tag n) (with_bignums-again v)
  with_bignums-again _ = refl

  with_bignums_all-again : (vs : Items)
      → with_bignums_all (with_bignums_all vs) ≡ with_bignums_all vs
  with_bignums_all-again no_items = refl
  with_bignums_all-again (item v vs) = ap₂ item (with_bignums-again v) (with_bignums_all-again vs)

  with_bignums_pairs-again : (ms : ItemPairs)
      → with_bignums_pairs (with_bignums_pairs ms) ≡ with_bignums_pairs ms
  with_bignums_pairs-again no_item_pairs = refl
  with_bignums_pairs-again (item_pair k v ms) =
      cc (with_bignums-again k, with_bignums-again v, with_bignums_pairs-again ms)
