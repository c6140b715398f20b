-- A canonical tree is the one whose bytes are the canonical encoding of its value.
use Rattle.std.proofs.Common.{◌≡◌, ℕ, ◌+◌, ◌*◌, ◌^◌, ◌<◌, List, [], ◌∷◌, ◌++◌, length, false, ltb}
use Rattle.std.proofs.Common.{ltb-true, lt-ltb, pos, negsuc, refl, sym, ap, ap₂, ◌∙◌, subst, arith}
use Rattle.std.proofs.Common.{append_assoc, get_or, suc, Bool, true, cond, rules}
use Rattle.std.proofs.lemmas.List.{append_cancel_left}
use Rattle.std.specs.{Prelude.◌↔◌}
use Rattle.cbor4ii_items.specs.{Budget.CostFits, Head.{Width, HeadFits, additional, head}}
use Rattle.cbor4ii_items.specs.{Head.{indefinite_head, shortest_width, break}, Initial.Sign}
use Rattle.cbor4ii_items.specs.Initial.{unsigned, negative, sign_major, Kind, byte_string}
use Rattle.cbor4ii_items.specs.Initial.{text_string, kind_major, simple_false, simple_null}
use Rattle.cbor4ii_items.specs.Initial.{simple_undefined, simple_byte}
use Rattle.cbor4ii_items.specs.Laws.Heads.{if_cases, shortest_fits, argument_below, same_wide}
use Rattle.cbor4ii_items.specs.Laws.Heads.{length-bytes_high_first}
use Rattle.cbor4ii_items.specs.Laws.NumbersBack.{length-without_leading_zeros}
use Rattle.cbor4ii_tree.specs.Basis.Canonical.{with_bignums, canonical_encoding, canonical_cost}
use Rattle.cbor4ii_tree.specs.Basis.Canonical.{canonical_tree, canonical_trees, canonical_pairs}
use Rattle.cbor4ii_tree.specs.Basis.Canonical.{integer_tree, tagged_integer, bignum, magnitude}
use Rattle.cbor4ii_tree.specs.Basis.Canonical.{sign_tag, with_bignums_all, with_bignums_pairs}
use Rattle.cbor4ii_tree.specs.Basis.{Cost.{cost, Budget}, Encodings.Encodes, Item.AreItemPairs}
use Rattle.cbor4ii_tree.specs.Basis.Item.{Item, boolean, integer, float, bytes_item, text, sequence}
use Rattle.cbor4ii_tree.specs.Basis.Item.{mapping, tag, Items, no_items, item, ItemPairs}
use Rattle.cbor4ii_tree.specs.Basis.Item.{no_item_pairs, item_pair, item_count, item_pair_count}
use Rattle.cbor4ii_tree.specs.Basis.{Item.{IsItem, AreItems}, Meaning.{value, values}}
use Rattle.cbor4ii_tree.specs.Basis.{Meaning.{pair_values_of, number, content_item}, Tree.Tree}
use Rattle.cbor4ii_tree.specs.Basis.Tree.{int, string, chunked, array, array_indefinite, map_of}
use Rattle.cbor4ii_tree.specs.Basis.Tree.{map_indefinite, tagged, simple, bits, Trees, no_trees}
use Rattle.cbor4ii_tree.specs.Basis.Tree.{tree, Pairs, no_pairs, pair, count, pair_count}
use Rattle.cbor4ii_tree.specs.Basis.Tree.{joined_chunks, bytes, bytes_all, bytes_pairs, Loose}
use Rattle.cbor4ii_tree.specs.Basis.Tree.{LooseAll, LoosePairs, SoundStringsAll, SoundStringsPairs}
use Rattle.cbor4ii_tree.specs.{Basis.Tree.Plain, Calls.CanonicalShape.CanonicalShape}
use Rattle.cbor4ii_tree.specs.Calls.CanonicalShape.{CanonicalShapeAll, CanonicalShapePairs}
use Rattle.cbor4ii_tree.specs.Calls.CanonicalShape.{IsDecoded, EncodesCanonically}
use Rattle.cbor4ii_tree.specs.Calls.CanonicalShape.{DecodesCanonically, CanonicalTree}
use Rattle.cbor4ii_tree.specs.Laws.{Ignoring.one_encoding, Numbers.info-additional}
use Rattle.cbor4ii_tree.proofs.encodings.Sizes.{integer-value, content-value, item_count-values}
use Rattle.cbor4ii_tree.proofs.encodings.Sizes.{pair_count-values}

-- ---- the canonical encoding is an encoding

length-magnitude : (n : ℕ) → length (magnitude n) < 2 ^ 64
length-magnitude n = search (rules, length-without_leading_zeros, length-bytes_high_first)

pub tag_fits : (s : Sign) → HeadFits (shortest_width (sign_tag s)) (sign_tag s)
tag_fits unsigned = omega arith
tag_fits negative = omega arith

canonical_integer : (s : Sign) (n : ℕ) → CanonicalTree (integer_tree s n)
canonical_integer s n =
    search (rules, if_cases, shortest_fits, ltb-true, tag_fits, length-magnitude)

pub count-canonical_encoding : (vs : Items) → count (canonical_trees vs) ≡ item_count vs
count-canonical_encoding no_items = refl
count-canonical_encoding (item v vs) = ap suc (count-canonical_encoding vs)

pub count-pairs : (ms : ItemPairs) → pair_count (canonical_pairs ms) ≡ item_pair_count ms
count-pairs no_item_pairs = refl
count-pairs (item_pair k v ms) = ap suc (count-pairs ms)

definite_fits : (n m : ℕ) → n ≡ m → m < 2 ^ 64 → HeadFits (shortest_width m) n
definite_fits n m e h = subst (HeadFits (shortest_width m)) (sym e) (shortest_fits m h)

mutual
  pub is_canonical : (v : Item) → IsItem v → CanonicalTree (canonical_tree v)
  is_canonical (boolean false) h = ((tt, tt), λ e. cc)
  is_canonical (integer (pos n)) h = canonical_integer unsigned n
  is_canonical (integer (negsuc n)) h = canonical_integer negative n
  is_canonical (float p n) h = ((h, tt), tt)
  is_canonical (bytes_item bs) h = ((shortest_fits (length bs) h, tt), refl)
  is_canonical (text bs) h = ((shortest_fits (length bs) h.0, h.1), refl)
  is_canonical (sequence vs) h =
      let c = count-canonical_encoding vs in
      let r = are_canonical vs h.1 in
      (((definite_fits _ _ c h.0, r.0.0), r.0.1), (ap shortest_width (sym c), r.1))
  is_canonical (mapping ms) h =
      let c = count-pairs ms in
      let r = pairs_canonical ms h.1 in
      (((definite_fits _ _ c h.0, r.0.0), r.0.1), (ap shortest_width (sym c), r.1))
  is_canonical (tag n v) h =
      let r = is_canonical v h.1 in (((shortest_fits n h.0, r.0.0), r.0.1), (refl, r.1))
  is_canonical _ h = ((tt, tt), λ e. cc)

  are_canonical : (vs : Items) → AreItems vs → (LooseAll (canonical_trees vs)
      × SoundStringsAll (canonical_trees vs)) × CanonicalShapeAll (canonical_trees vs)
  are_canonical no_items h = ((tt, tt), tt)
  are_canonical (item v vs) h =
      let a = is_canonical v h.0 in
      let r = are_canonical vs h.1 in (((a.0.0, r.0.0), (a.0.1, r.0.1)), (a.1, r.1))

  pairs_canonical : (ms : ItemPairs) → AreItemPairs ms → (LoosePairs (canonical_pairs ms)
      × SoundStringsPairs (canonical_pairs ms)) × CanonicalShapePairs (canonical_pairs ms)
  pairs_canonical no_item_pairs h = ((tt, tt), tt)
  pairs_canonical (item_pair k v ms) h =
      let a = is_canonical k h.0 in
      let b = is_canonical v h.1 in
      let r = pairs_canonical ms h.2 in
      (((a.0.0, b.0.0, r.0.0), (a.0.1, b.0.1, r.0.1)), (a.1, b.1, r.1))

value_integer : (s : Sign) (n : ℕ)
    → value (integer_tree s n) ≡ tagged_integer s n (integer (number s n))
value_integer s n = value_if (ltb n (2 ^ 64))
  where
    value_if : (b : Bool) → value (cond b (Tree.int s n (shortest_width n)) (bignum s n)) ≡ cond b
        (integer (number s n)) (tag (sign_tag s) (bytes_item (magnitude n)))
    value_if true = refl
    value_if false = refl

mutual
  pub value-canonical_encoding : (v : Item) → value (canonical_tree v) ≡ with_bignums v
  value-canonical_encoding (boolean false) = refl
  value-canonical_encoding (integer (pos n)) = value_integer unsigned n
  value-canonical_encoding (integer (negsuc n)) = value_integer negative n
  value-canonical_encoding (sequence vs) = ap sequence (values-canonical_encoding vs)
  value-canonical_encoding (mapping ms) = ap mapping (pair_values-canonical_encoding ms)
  value-canonical_encoding (tag n v) = ap (tag n) (value-canonical_encoding v)
  value-canonical_encoding _ = refl

  values-canonical_encoding : (vs : Items) → values (canonical_trees vs) ≡ with_bignums_all vs
  values-canonical_encoding no_items = refl
  values-canonical_encoding (item v vs) =
      ap₂ item (value-canonical_encoding v) (values-canonical_encoding vs)

  pair_values-canonical_encoding : (ms : ItemPairs) → pair_values_of (canonical_pairs ms) ≡
      with_bignums_pairs ms
  pair_values-canonical_encoding no_item_pairs = refl
  pair_values-canonical_encoding (item_pair k v ms) =
      cc (
        value-canonical_encoding k,
        value-canonical_encoding v,
        pair_values-canonical_encoding ms,
      )

-- the canonical encoding is read back, with each large integer as its bignum
pub canonical_encodes : (v : Item) → IsItem v → Encodes (canonical_encoding v) (with_bignums v)
    (cost (canonical_tree v))
canonical_encodes v h = record {
  of_tree = canonical_tree v;
  plain = (is_canonical v h).0;
  bytes_are = refl;
  value_is = value-canonical_encoding v;
  cost_is = refl;
}

-- ---- what is read is no integer beyond its heads

tagged_integer-small : (s : Sign) (n : ℕ) → n < 2 ^ 64
    → tagged_integer s n (integer (number s n)) ≡ integer (number s n)
tagged_integer-small s n h = rw (lt-ltb n (2 ^ 64) h) refl

with_bignums-number : (s : Sign) (n : ℕ) → n < 2 ^ 64
    → with_bignums (integer (number s n)) ≡ integer (number s n)
with_bignums-number unsigned n h = tagged_integer-small unsigned n h
with_bignums-number negative n h = tagged_integer-small negative n h

with_bignums-content : (k : Kind) (content : List ℕ)
    → with_bignums (content_item k content) ≡ content_item k content
with_bignums-content byte_string content = refl
with_bignums-content text_string content = refl

mutual
  pub with_bignums-value : (t : Tree) → Loose t → with_bignums (value t) ≡ value t
  with_bignums-value (int s n w) h = with_bignums-number s n (argument_below w n h)
  with_bignums-value (string k w content) h = with_bignums-content k content
  with_bignums-value (chunked k ts) h = with_bignums-content k (joined_chunks ts)
  with_bignums-value (array w ts) h = ap sequence (with_bignums-values ts h.1)
  with_bignums-value (array_indefinite ts) h = ap sequence (with_bignums-values ts h)
  with_bignums-value (map_of w ps) h = ap mapping (with_bignums-pair_values ps h.1)
  with_bignums-value (map_indefinite ps) h = ap mapping (with_bignums-pair_values ps h)
  with_bignums-value (tagged n w t) h = ap (tag n) (with_bignums-value t h.1)
  with_bignums-value (simple simple_false) h = refl
  with_bignums-value _ h = refl

  with_bignums-values : (ts : Trees) → LooseAll ts → with_bignums_all (values ts) ≡ values ts
  with_bignums-values no_trees h = refl
  with_bignums-values (tree t ts) h =
      ap₂ item (with_bignums-value t h.0) (with_bignums-values ts h.1)

  with_bignums-pair_values : (ps : Pairs) → LoosePairs ps
      → with_bignums_pairs (pair_values_of ps) ≡ pair_values_of ps
  with_bignums-pair_values no_pairs h = refl
  with_bignums-pair_values (pair k v ps) h =
      cc (with_bignums-value k h.0, with_bignums-value v h.1, with_bignums-pair_values ps h.2)

-- ---- a tree of this shape is what encoders write

canonical_encoding-integer : (s : Sign) (n : ℕ) → n < 2 ^ 64
    → canonical_tree (integer (number s n)) ≡ int s n (shortest_width n)
canonical_encoding-integer unsigned n h = rw (lt-ltb n (2 ^ 64) h) refl
canonical_encoding-integer negative n h = rw (lt-ltb n (2 ^ 64) h) refl

canonical_encoding-content : (k : Kind) (content : List ℕ)
    → canonical_tree (content_item k content) ≡ string k (shortest_width (length content)) content
canonical_encoding-content byte_string content = refl
canonical_encoding-content text_string content = refl

mutual
  -- what is read canonically is an item, of which it is the tree
  pub item_of_shape : (t : Tree) → Plain t → CanonicalShape t
      → (canonical_tree (value t) ≡ t) × IsItem (value t)
  item_of_shape (int s n w) p h =
      let lt = argument_below w n p.0 in
      (canonical_encoding-integer s n lt ∙ ap (int s n) (sym h), integer-value s n lt)
  item_of_shape (string k w content) p h = (
    canonical_encoding-content k content ∙ ap (λ u. string k u content) (sym h),
    content-value k content p.1 (argument_below w (length content) p.0),
  )
  item_of_shape (chunked k ts) p h = absurd h
  item_of_shape (array w ts) p h =
      let c = item_count-values ts in
      let r = items_of_shape ts (p.0.1, p.1) h.1 in (
        ap₂ array (ap shortest_width c ∙ sym h.0) r.0,
        (subst (λ n. n < 2 ^ 64) (sym c) (argument_below w (count ts) p.0.0), r.1),
      )
  item_of_shape (array_indefinite ts) p h = absurd h
  item_of_shape (map_of w ps) p h =
      let c = pair_count-values ps in
      let r = pairs_of_shape ps (p.0.1, p.1) h.1 in (
        ap₂ map_of (ap shortest_width c ∙ sym h.0) r.0,
        (subst (λ n. n < 2 ^ 64) (sym c) (argument_below w (pair_count ps) p.0.0), r.1),
      )
  item_of_shape (map_indefinite ps) p h = absurd h
  item_of_shape (tagged n w t) p h =
      let r = item_of_shape t (p.0.1, p.1) h.1 in
      (ap₂ (tagged n) (sym h.0) r.0, (argument_below w n p.0.0, r.1))
  item_of_shape (simple simple_undefined) p h = absurd (h refl)
  item_of_shape (simple _) p h = (refl, tt)
  item_of_shape (bits p n) l h = (refl, l.0)

  items_of_shape : (ts : Trees) → LooseAll ts × SoundStringsAll ts → CanonicalShapeAll ts
      → (canonical_trees (values ts) ≡ ts) × AreItems (values ts)
  items_of_shape no_trees p h = (refl, tt)
  items_of_shape (tree t ts) p h =
      let a = item_of_shape t (p.0.0, p.1.0) h.0 in
      let r = items_of_shape ts (p.0.1, p.1.1) h.1 in (ap₂ tree a.0 r.0, (a.1, r.1))

  pairs_of_shape : (ps : Pairs) → LoosePairs ps × SoundStringsPairs ps → CanonicalShapePairs ps
      → (canonical_pairs (pair_values_of ps) ≡ ps) × AreItemPairs (pair_values_of ps)
  pairs_of_shape no_pairs p h = (refl, tt)
  pairs_of_shape (pair k v ps) p h =
      let a = item_of_shape k (p.0.0, p.1.0) h.0 in
      let b = item_of_shape v (p.0.1, p.1.1) h.1 in
      let r = pairs_of_shape ps (p.0.2, p.1.2) h.2 in (cc (a.0, b.0, r.0), (a.1, b.1, r.1))

-- ---- what is encoded as encoders write has the shape

pub same_first : (a b : ℕ) (x y : List ℕ) → a ∷ x ≡ b ∷ y → (a ≡ b) × (x ≡ y)
same_first a b x y e = (cc, cc)

-- the first byte of a head
pub first_byte : (major n : ℕ) (w : Width) (b : ℕ) (bs ys : List ℕ) → b ∷ bs ≡ head major n w ++ ys
    → b ≡ 32 * major + additional w n
first_byte major n w b bs ys e = ap (λ z. get_or z 0 0) e

-- of one argument and one first byte the head is one
pub same_width : (major n : ℕ) (w u : Width) → HeadFits w n → HeadFits u n
    → 32 * major + additional w n ≡ 32 * major + additional u n → w ≡ u
same_width major n w u h k e = search (rules, same_wide, info-additional)

pub same_head : (major n : ℕ) (w : Width) (x y : List ℕ) → HeadFits w n
    → head major n w ++ x ≡ head major n (shortest_width n) ++ y → (w ≡ shortest_width n) × (x ≡ y)
same_head major n w x y h e =
    search (rules, shortest_fits, argument_below, same_width, first_byte, append_cancel_left)

-- the same of what is encoded after a head, whose argument an encoder gives
same_headed : (major n : ℕ) (w : Width) (xs ys x y : List ℕ) {m k : ℕ} → HeadFits w n → m ≡ n
    → k ≡ n → (head major n w ++ xs) ++ x ≡ (head major m (shortest_width k) ++ ys) ++ y
    → (w ≡ shortest_width n) × (xs ++ x ≡ ys ++ y)
same_headed major n w xs ys x y {m = m} {k = k} h p q e = search (rules, same_head, append_assoc)

pub additional-shortest : (n : ℕ) → additional (shortest_width n) n < 28
additional-shortest n = search (rules, if_cases, ltb-true)

not_indefinite : (major n : ℕ) (x ys y : List ℕ) {m : ℕ} → m ≡ n
    → indefinite_head major ∷ x ≡ (head major m (shortest_width n) ++ ys) ++ y → ⊥
not_indefinite major n x ys y {m = m} p e =
    search (rules, first_byte, append_assoc, additional-shortest)

mutual
  pub shape_of_canonical : (t : Tree) (x y : List ℕ) → Loose t
      → bytes t ++ x ≡ canonical_encoding (value t) ++ y → CanonicalShape t × (x ≡ y)
  shape_of_canonical (int s n w) x y l e =
      same_head (sign_major s) n w x y l
      (e ∙ ap (λ u. bytes u ++ y) (canonical_encoding-integer s n (argument_below w n l)))
  shape_of_canonical (string k w content) x y l e =
      let heads = same_headed (kind_major k) (length content) w content content x y l refl refl
      (e ∙ ap (λ u. bytes u ++ y) (canonical_encoding-content k content)) in
      (heads.0, append_cancel_left content x y heads.1)
  shape_of_canonical (chunked k ts) x y l e =
      let content = joined_chunks ts in
      absurd (not_indefinite (kind_major k) (length content) ((bytes_all ts ++ break ∷ []) ++ x)
      content y refl (e ∙ ap (λ u. bytes u ++ y) (canonical_encoding-content k content)))
  shape_of_canonical (array w ts) x y l e =
      let vs = values ts in
      let c = item_count-values ts in
      let heads = same_headed 4 (count ts) w (bytes_all ts) (bytes_all (canonical_trees vs)) x y l.0
      (count-canonical_encoding vs ∙ c) c e in
      let rest = shape_of_canonical_all ts x y l.1 heads.1 in
      ((heads.0, rest.0), rest.1)
  shape_of_canonical (array_indefinite ts) x y l e =
      let vs = values ts in
      absurd (not_indefinite 4 (item_count vs) ((bytes_all ts ++ break ∷ []) ++ x)
      (bytes_all (canonical_trees vs)) y (count-canonical_encoding vs) e)
  shape_of_canonical (map_of w ps) x y l e =
      let ms = pair_values_of ps in
      let c = pair_count-values ps in
      let heads = same_headed 5 (pair_count ps) w (bytes_pairs ps)
      (bytes_pairs (canonical_pairs ms)) x y l.0 (count-pairs ms ∙ c) c e in
      let rest = shape_of_canonical_pairs ps x y l.1 heads.1 in
      ((heads.0, rest.0), rest.1)
  shape_of_canonical (map_indefinite ps) x y l e =
      let ms = pair_values_of ps in
      absurd (not_indefinite 5 (item_pair_count ms) ((bytes_pairs ps ++ break ∷ []) ++ x)
      (bytes_pairs (canonical_pairs ms)) y (count-pairs ms) e)
  shape_of_canonical (tagged n w t) x y l e =
      let heads = same_headed 6 n w (bytes t) (canonical_encoding (value t)) x y l.0 refl refl e in
      let rest = shape_of_canonical t x y l.1 heads.1 in
      ((heads.0, rest.0), rest.1)
  shape_of_canonical (simple simple_undefined) x y l e =
      absurd (omega (
        arith,
        (same_first (simple_byte simple_undefined) (simple_byte simple_null) x y e).0,
      ))
  shape_of_canonical (bits p n) x y l e = (tt, append_cancel_left (bytes (bits p n)) x y e)
  shape_of_canonical _ x y l e = (λ u. cc, (same_first _ _ _ _ e).1)

  shape_of_canonical_all : (ts : Trees) (x y : List ℕ) → LooseAll ts
      → bytes_all ts ++ x ≡ bytes_all (canonical_trees (values ts)) ++ y → CanonicalShapeAll ts ×
      (x ≡ y)
  shape_of_canonical_all no_trees x y l e = (tt, e)
  shape_of_canonical_all (tree t ts) x y l e =
      let trailing = bytes_all (canonical_trees (values ts)) in
      let first = shape_of_canonical t (bytes_all ts ++ x) (trailing ++ y) l.0
      (simp append_assoc at e) in
      let rest = shape_of_canonical_all ts x y l.1 first.1 in
      ((first.0, rest.0), rest.1)

  shape_of_canonical_pairs : (ps : Pairs) (x y : List ℕ) → LoosePairs ps
      → bytes_pairs ps ++ x ≡ bytes_pairs (canonical_pairs (pair_values_of ps)) ++ y
      → CanonicalShapePairs ps × (x ≡ y)
  shape_of_canonical_pairs no_pairs x y l e = (tt, e)
  shape_of_canonical_pairs (pair k v ps) x y l e =
      let trailing = bytes_pairs (canonical_pairs (pair_values_of ps)) in
      let key = shape_of_canonical k (bytes v ++ (bytes_pairs ps ++ x))
      (canonical_encoding (value v) ++ (trailing ++ y)) l.0 (simp append_assoc at e) in
      let val = shape_of_canonical v (bytes_pairs ps ++ x) (trailing ++ y) l.1 key.1 in
      let rest = shape_of_canonical_pairs ps x y l.2 val.1 in
      ((key.0, val.0, rest.0), rest.1)

-- a plain tree has the shape exactly where its bytes are the canonical encoding of its value
pub shape_iff_canonical : (t : Tree) → Plain t →
    (CanonicalShape t ↔ (bytes t ≡ canonical_encoding (value t)))
shape_iff_canonical t p = (
  λ h. ap bytes (sym (item_of_shape t p h).0),
  λ e. (shape_of_canonical t [] [] p.0 (ap (λ r. r ++ []) e)).0,
)

-- what is encoded so is the canonical encoding of a value that reading gives, at its cost
pub canonically_encoded : (encoding : List ℕ) (v : Item) (steps : ℕ) → EncodesCanonically encoding
    v steps
    → IsDecoded v × (encoding ≡ canonical_encoding v) × (steps ≡ canonical_cost v)
canonically_encoded encoding v steps s =
    let p = s.canonical.0 in
    let shaped = item_of_shape s.of_tree p s.canonical.1 in
    let same = ap canonical_tree (sym s.value_is) ∙ shaped.0 in (
      (
        subst IsItem s.value_is shaped.1,
        subst (λ w. with_bignums w ≡ w) s.value_is (with_bignums-value s.of_tree p.0),
      ),
      sym s.bytes_are ∙ ap bytes (sym same),
      sym s.cost_is ∙ ap cost (sym same),
    )

-- what is written of a value of the program encodes it canonically, with its bignums as tags
pub written_canonically : (v : Item) → IsItem v → EncodesCanonically (canonical_encoding v)
    (with_bignums v) (canonical_cost v)
written_canonically v h = record {
  of_tree = canonical_tree v;
  canonical = is_canonical v h;
  bytes_are = refl;
  value_is = value-canonical_encoding v;
  cost_is = refl;
}

-- the canonical encoding of a value that reading gives is one
pub canonical_canonically : (v : Item) → IsDecoded v → EncodesCanonically (canonical_encoding v) v
    (canonical_cost v)
canonical_canonically v h = search (rules, written_canonically)

pub reads_canonically_iff : (input : List ℕ) (budget : Budget) (v : Item) (rest : List ℕ)
    → DecodesCanonically input budget v rest
    ↔ (IsDecoded v × CostFits (canonical_cost v) budget × (input ≡ canonical_encoding v ++ rest))
reads_canonically_iff input budget v rest = (
  λ r. let s =
      canonically_encoded r.encoding v r.steps r.encodes in
      (s.0, subst (λ c. CostFits c budget) s.2 r.fits, r.begins ∙ ap (λ x. x ++ rest) s.1),
  λ h. record {
    encoding = canonical_encoding v;
    steps = canonical_cost v;
    encodes = canonical_canonically v h.0;
    fits = h.1;
    begins = h.2;
  },
)

-- two values are equal exactly where their bytes are
pub equal_iff_bytes : (s t : List ℕ) (v w : Item) (c d : ℕ) → EncodesCanonically s v c
    → EncodesCanonically t w d → ((v ≡ w) ↔ (s ≡ t))
equal_iff_bytes s t v w c d p q =
    let a = canonically_encoded s v c p in
    let b = canonically_encoded t w d q in (
      λ e. a.1 ∙ ap canonical_encoding e ∙ sym b.1,
      λ e. let same =
          one_encoding p.of_tree q.of_tree [] [] p.canonical.0.0 q.canonical.0.0
          (ap (λ r. r ++ []) (p.bytes_are ∙ e ∙ sym q.bytes_are)) in
          sym p.value_is ∙ ap value same.0 ∙ q.value_is,
    )
