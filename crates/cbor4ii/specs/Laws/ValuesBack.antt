-- A value of the tree in which no tag stands is read back from its canonical encoding.
use Rattle.std.proofs.Common.{◌≡◌, inl, inr, ℕ, suc, ◌+◌, ◌*◌, ◌/◌, ◌<◌, ◌≤◌, ◌^◌, List, [], ◌∷◌}
use Rattle.std.proofs.Common.{◌++◌, length, take, map, max, Bool, true, false, ◌||◌, cond, ltb}
use Rattle.std.proofs.Common.{ltb-true, ℤ, pos, negsuc, refl, sym, ap, ◌∙◌, subst, arith, rules}
use Rattle.std.proofs.Common.{append_assoc, All}
use Rattle.std.specs.Prelude.{string_bytes}
use Rattle.std.specs.declared.alloc.Global.{Global}
use Rattle.std.specs.declared.string.String.{String}
use Rattle.std.specs.declared.vec.Vec.{Vec}
use Rattle.std.specs.declared.boxed.Box.{Box}
use Rattle.std.specs.formers.vec.Vec.{mapped}
use Rattle.cbor4ii_items.specs.Decoding.{Reads}
use Rattle.cbor4ii_items.specs.Floats.{float_bytes}
use Rattle.cbor4ii_items.specs.Head.{head, indefinite_head, additional, shortest_width, eight}
use Rattle.cbor4ii_items.specs.Heads.{ReadsHead}
use Rattle.cbor4ii_items.specs.Initial.{Sign, unsigned, negative}
use Rattle.cbor4ii_items.specs.Numbers.{ReadsI128, ReadsU128, shortest_head, bignum_bytes}
use Rattle.cbor4ii_items.specs.Sequences.{ReadsSequence, ReadsPair}
use Rattle.cbor4ii_items.specs.ReadBack.{ReadsBack, greatest_part_cost, pair_cost}
use Rattle.cbor4ii_items.specs.Strings.{definite_string, bytes_content, text_content}
use Rattle.cbor4ii_items.specs.Laws.LeavesBack.{definite_back, string_back, text_back, simple_back}
use Rattle.cbor4ii_items.specs.Laws.LeavesBack.{float_back}
use Rattle.cbor4ii_items.specs.Laws.NumbersBack.{head_back, u128_back, i128_back}
use Rattle.cbor4ii_tree.specs.Laws.Numbers.{additional-lt}
use Rattle.cbor4ii_tree.specs.Basis.Canonical.{canonical_encoding, canonical_cost, canonical_trees}
use Rattle.cbor4ii_tree.specs.Basis.Canonical.{canonical_pairs, bignum}
use Rattle.cbor4ii_tree.specs.declared.value.Value.TheFolds.{ind-Value}
use Rattle.cbor4ii_tree.specs.Basis.Item.{Item, null, boolean, integer, bytes_item, text}
use Rattle.cbor4ii_tree.specs.Basis.Item.{sequence}
use Rattle.cbor4ii_tree.specs.Basis.Item.{mapping, tag, Items, no_items, item, ItemPairs}
use Rattle.cbor4ii_tree.specs.Basis.Item.{no_item_pairs}
use Rattle.cbor4ii_tree.specs.Basis.Item.{item_pair, item_count, item_pair_count, IsItem, AreItems}
use Rattle.cbor4ii_tree.specs.Basis.Item.{AreItemPairs}
use Rattle.cbor4ii_tree.specs.Basis.Tree.{int, bytes, bytes_all, bytes_pairs, count, pair_count}
use Rattle.cbor4ii_tree.specs.Basis.View.{view, float_view, items_view, pairs_view}
use Rattle.cbor4ii_tree.specs.declared.value.FloatBits.{FloatBits}
use Rattle.cbor4ii_tree.specs.declared.value.FloatBits.TheVariants as float_bits
use Rattle.cbor4ii_tree.specs.declared.value.Value.{Value, the_lemmas}
use Rattle.cbor4ii_tree.specs.declared.value.Value as values
use Rattle.cbor4ii_tree.specs.declared.value.Value.TheOpen.{Value-F}
use Rattle.cbor4ii_tree.specs.declared.value.Value.TheVariants as variants
use Rattle.cbor4ii_tree.specs.Basis.Cost.{cost}
use Rattle.cbor4ii_tree.specs.Basis.Cost as Cost
use Rattle.cbor4ii_ser.specs.Item.{Encoding, encoded, rejected, one_then, each_encoding}
use Rattle.cbor4ii_ser.specs.Item.{pair_encoding}
use Rattle.cbor4ii_ser.specs.Values.{holds_tag, some_holds_tag, pairs_hold_tag, unless}
use Rattle.cbor4ii_ser.specs.Values.{value_encoding}
use Rattle.cbor4ii.specs.declared.serde.de.any_leaf.AnyKind.{AnyKind}
use Rattle.cbor4ii.specs.declared.serde.de.any_leaf.AnyKind.TheVariants.{Leaf, Array, Map}
use Rattle.cbor4ii.specs.declared.serde.de.any_leaf.AnyLeaf.TheVariants.{Integer, Bignum, Bytes}
use Rattle.cbor4ii.specs.declared.serde.de.any_leaf.AnyLeaf.TheVariants.{Text, Bool as Flag, Null}
use Rattle.cbor4ii.specs.declared.serde.de.any_leaf.AnyLeaf.TheVariants.{F16, F32, F64}
use Rattle.cbor4ii.specs.Any.{kind, kind_by, KindAs, ReadsAny}
use Rattle.cbor4ii.specs.AnyCost.{any_cost, greatest_any_cost, greatest_any_pair_cost}
use Rattle.cbor4ii.specs.Laws.Any.{any_of_inside}
use Rattle.cbor4ii.specs.ReadBack.{IsReadBack}
use Rattle.cbor4ii.specs.Laws.Backs.{sequence_read_back, map_pairs_back}
use Rattle.std.proofs.lemmas.List.Elements.{All-nil, All-cons}

-- ---- by the first byte

-- a value of the kind that its first byte begins
by_kind : (k : AnyKind) (b : ℕ) (xs : List ℕ) (v : Value) (n c : ℕ) → take 1 xs ≡ b ∷ []
    → kind b ≡ k → KindAs ReadsAny k xs v n c → ReadsAny xs v n (1 + c)
by_kind k b xs v n c first is h =
    any_of_inside xs v n (1 + c)
    (c, (b, first, subst (λ j. KindAs ReadsAny j xs v n c) (sym is) h), refl)

-- its head has a major type of this kind
by_head : (k : AnyKind) (major : ℕ) → ((b : ℕ) → kind_by major b ≡ k)
    → (width count m : ℕ) (xs : List ℕ) (v : Value) (n c : ℕ) → ReadsHead major width xs count m
    → KindAs ReadsAny k xs v n c → ReadsAny xs v n (1 + c)
by_head k major kinds width count m xs v n c h r =
    let b = 32 * major + additional h.wide count in
    let high : b / 32 ≡ major = omega (arith, additional-lt count h.wide h.fits) in
    by_kind k b xs v n c (ap (take 1) h.is) (ap (λ z. kind_by z b) high ∙ kinds b) r

module _ {P : Type 0} (reads : Reads P) (k : AnyKind) (major : ℕ)
    (kinds : (b : ℕ) → kind_by major b ≡ k) where
  by_sequence : (xs : List ℕ) (ps : List P) (v : Value) (n c : ℕ) → kind (indefinite_head major) ≡ k
      → ReadsSequence major reads true xs ps n c → KindAs ReadsAny k xs v n c
      → ReadsAny xs v n (1 + c)
  by_sequence xs ps v n c opens (d, inl counted, e) r =
      by_head k major kinds 8 (length ps) counted.before xs v n c counted.head r
  by_sequence xs ps v n c opens (d, inr ended, e) r =
      by_kind k (indefinite_head major) xs v n c ended.begins opens r

-- ---- integers

from_zero_back : (t : Bool) (k : ℕ) → ltb k (2 ^ 64) ≡ t → k < 2 ^ 127
    → ReadsBack ReadsAny (bytes (cond t (int unsigned k (shortest_width k)) (bignum unsigned k)))
    (values.Integer (pos k)) 1
from_zero_back true k e h rest =
    let start = shortest_head 0 k in
    let read = head_back 0 eight k (omega (arith, ltb-true k (2 ^ 64) e)) rest in
    by_head (Leaf Integer) 0 (λ b. refl) 8 k (length start) (start ++ rest) (values.Integer (pos k))
    (length start) 0 read (pos k, (inl read, refl), refl)
from_zero_back false k e h rest =
    let back : ReadsBack ReadsU128 (bignum_bytes 2 k) k 0 =
    subst (λ t. ReadsBack ReadsU128 (cond t (shortest_head 0 k) (bignum_bytes 2 k)) k 0) e
    (u128_back k (omega (arith, h))) in
    by_kind (Leaf Bignum) 0xc2 (bignum_bytes 2 k ++ rest) (values.Integer (pos k))
    (length (bignum_bytes 2 k)) 0 refl refl (k, (back rest, h), refl)

below_zero_back : (t : Bool) (k : ℕ) → ltb k (2 ^ 64) ≡ t → k < 2 ^ 127
    → ReadsBack ReadsAny (bytes (cond t (int negative k (shortest_width k)) (bignum negative k)))
    (values.Integer (negsuc k)) 1
below_zero_back true k e h rest =
    let start = shortest_head 1 k in
    let read = head_back 1 eight k (omega (arith, ltb-true k (2 ^ 64) e)) rest in
    by_head (Leaf Integer) 1 (λ b. refl) 8 k (length start) (start ++ rest)
    (values.Integer (negsuc k)) (length start) 0 read (negsuc k, (inl read, refl), refl)
below_zero_back false k e h rest =
    let back : ReadsBack ReadsI128 (bignum_bytes 3 k) (negsuc k) 0 =
    subst (λ t. ReadsBack ReadsI128 (cond t (shortest_head 1 k) (bignum_bytes 3 k))
    (negsuc k) 0) e (i128_back (negsuc k) h) in
    by_kind (Leaf Integer) 0xc3 (bignum_bytes 3 k ++ rest) (values.Integer (negsuc k))
    (length (bignum_bytes 3 k)) 0 refl refl (negsuc k, back rest, refl)

-- ---- items that hold no other

-- the value is read back, if it is one of the program
abbrev BackAs : Item → Value → Type 0
BackAs i v = IsItem i → IsReadBack ReadsAny (value_encoding i) v (any_cost i)

abbrev Back : Value → Type 0
Back v = BackAs (view v) v

as_seen : (v : Value) (i : Item) → view v ≡ i → BackAs i v → Back v
as_seen v i e h = subst (λ j. BackAs j v) (sym e) h

null_back : Back values.Null
null_back =
    as_seen values.Null null (search (rules, the_lemmas))
    (λ h rest. by_kind (Leaf Null) 0xf6 (0xf6 ∷ rest) values.Null 1 0 refl refl
    (record { 0 = 22 }, simple_back (record { 0 = 22 }) (omega arith) rest, refl))

bool_read : (b : Bool) → BackAs (boolean b) (values.Bool b)
bool_read false h rest =
    by_kind (Leaf Flag) 0xf4 (0xf4 ∷ rest)
    (values.Bool false) 1 0 refl refl (false, (refl, refl, refl), refl)
bool_read true h rest =
    by_kind (Leaf Flag) 0xf5 (0xf5 ∷ rest)
    (values.Bool true) 1 0 refl refl (true, (refl, refl, refl), refl)

bool_back : (b : Bool) → Back (values.Bool b)
bool_back b = as_seen (values.Bool b) (boolean b) (search (rules, the_lemmas)) (bool_read b)

integer_read : (z : ℤ) → BackAs (integer z) (values.Integer z)
integer_read (pos k) h = from_zero_back (ltb k (2 ^ 64)) k refl h
integer_read (negsuc k) h = below_zero_back (ltb k (2 ^ 64)) k refl h

integer_back : (z : ℤ) → Back (values.Integer z)
integer_back z =
    as_seen (values.Integer z) (integer z) (search (rules, the_lemmas)) (integer_read z)

float_read : (f : FloatBits) → BackAs (float_view f) (values.Float f)
float_read (float_bits.F16 k) h =
    λ rest. by_kind (Leaf F16) 0xf9 (float_bytes 0xf9 2 k ++ rest) (values.Float (float_bits.F16 k))
    3 0 refl refl (record { 0 = k }, float_back 0xf9 2 k h rest, refl)
float_read (float_bits.F32 k) h =
    λ rest. by_kind (Leaf F32) 0xfa (float_bytes 0xfa 4 k ++ rest) (values.Float (float_bits.F32 k))
    5 0 refl refl (record { 0 = k }, float_back 0xfa 4 k h rest, refl)
float_read (float_bits.F64 k) h =
    λ rest. by_kind (Leaf F64) 0xfb (float_bytes 0xfb 8 k ++ rest) (values.Float (float_bits.F64 k))
    9 0 refl refl (record { 0 = k }, float_back 0xfb 8 k h rest, refl)

floats_back : (f : FloatBits) → Back (values.Float f)
floats_back f = as_seen (values.Float f) (float_view f) (search (rules, the_lemmas)) (float_read f)

bytes_back : (v : Vec ℕ Global) → Back (values.Bytes v)
bytes_back v = as_seen (values.Bytes v) (bytes_item v.items) (search (rules, the_lemmas)) (λ h rest.
    let content = definite_string 2 v.items in
    by_head (Leaf Bytes) 2 (λ b. refl) 8 (length v.items) _ (content ++ rest) (values.Bytes v)
    (length content) 0 (definite_back 2 v.items rest h).head
    (record { 0 = v }, string_back bytes_content (record { 0 = v }) h 2 rest, refl))

texts_back : (s : String Global) → Back (values.Text s)
texts_back s =
    as_seen (values.Text s) (text (string_bytes s)) (search (rules, the_lemmas)) (λ h rest.
    let content = definite_string 3 (string_bytes s) in
    by_head (Leaf Text) 3 (λ b. refl) 8 (length (string_bytes s)) _ (content ++ rest)
    (values.Text s) (length content) 0 (definite_back 3 (string_bytes s) rest h.0).head
    (s, text_back text_content s h.0 h.1 rest, refl))

-- ---- items, one after another

-- where the second is an item, the first is that item
abbrev AgreesAsItem : Encoding → Encoding → Type 0
AgreesAsItem a b = (bytes : List ℕ) → b ≡ encoded bytes → a ≡ encoded bytes

agrees : (a b : Encoding) → a ≡ b → AgreesAsItem a b
agrees a b e bytes is = e ∙ is

agrees_on : (a b c : Encoding) → AgreesAsItem a b → AgreesAsItem b c → AgreesAsItem a c
agrees_on a b c h k bytes is = h bytes (k bytes is)

-- one after the other
agree_both : (a b c d : Encoding) → AgreesAsItem a c → AgreesAsItem b d → AgreesAsItem
    (one_then a b) (one_then c d)
unfolding one_then
agree_both a b (encoded xs) (encoded ys) h k bytes is = rw (h xs refl, k ys refl) is
agree_both a b _ _ h k bytes is = absurd (cc)

joined : (s t : Bool) (xs ys : List ℕ)
    → AgreesAsItem (one_then (unless s xs) (unless t ys)) (unless (s || t) (xs ++ ys))
unfolding one_then
joined false false xs ys bytes is = is
joined _ _ xs ys bytes is = absurd (cc)

-- what is read back from an item is so where another agrees with it
back_as : {V : Type 0} (reads : Reads V) (a b : Encoding) (v : V) (cost : ℕ) → AgreesAsItem a b
    → IsReadBack reads a v cost → IsReadBack reads b v cost
back_as reads a (rejected bytes words) v cost h back = tt
back_as reads a (encoded bytes) v cost h back =
    subst (λ o. IsReadBack reads o v cost) (h bytes refl) back

abbrev own_item : Value → Encoding
own_item v = value_encoding (view v)

abbrev own_pair : Value × Value → Encoding
own_pair = pair_encoding own_item own_item

items_joined : (vs : List Value) → AgreesAsItem (each_encoding own_item vs)
    (unless (some_holds_tag (items_view vs)) (bytes_all (canonical_trees (items_view vs))))
items_joined [] = agrees _ _ refl
items_joined (v ∷ vs) =
    agrees_on _ _ _ (agree_both (own_item v) _ (own_item v) _ (agrees _ _ refl) (items_joined vs))
    (joined (holds_tag (view v)) (some_holds_tag (items_view vs)) (canonical_encoding (view v))
    (bytes_all (canonical_trees (items_view vs))))

pairs_joined : (ms : List (Value × Value)) → AgreesAsItem (each_encoding own_pair ms)
    (unless (pairs_hold_tag (pairs_view ms)) (bytes_pairs (canonical_pairs (pairs_view ms))))
pairs_joined [] = agrees _ _ refl
pairs_joined (m ∷ ms) =
    let s = holds_tag (view m.0) in
    let t = holds_tag (view m.1) in
    let u = pairs_hold_tag (pairs_view ms) in
    let key = canonical_encoding (view m.0) in
    let value = canonical_encoding (view m.1) in
    let others = bytes_pairs (canonical_pairs (pairs_view ms)) in
    agrees_on _ _ _ (agree_both (own_pair m) (each_encoding own_pair ms) (unless (s || t)
    (key ++ value)) (unless u others) (joined s t key value) (pairs_joined ms))
    (agrees_on _ _ _ (joined (s || t) u (key ++ value) others)
    (agrees _ _ (ap (unless ((s || t) || u)) (append_assoc key value others))))

definite_items : (vs : List Value)
    → (item_count (items_view vs) ≡ length vs) × (count (canonical_trees (items_view vs)) ≡
    length vs)
definite_items [] = (refl, refl)
definite_items (v ∷ vs) = (ap suc (definite_items vs).0, ap suc (definite_items vs).1)

definite_pairs : (ms : List (Value × Value)) → (item_pair_count (pairs_view ms) ≡ length ms)
    × (pair_count (canonical_pairs (pairs_view ms)) ≡ length ms)
definite_pairs [] = (refl, refl)
definite_pairs (m ∷ ms) = (ap suc (definite_pairs ms).0, ap suc (definite_pairs ms).1)

-- the head of a sequence counts its parts in two ways
one_head : (major n m k : ℕ) (t : Bool) (ys : List ℕ) → m ≡ k → n ≡ k
    → AgreesAsItem (one_then (encoded (shortest_head major k)) (unless t ys))
    (unless t (head major n (shortest_width m) ++ ys))
one_head major n m k t ys e f = rw (e, f) (joined false t (shortest_head major k) ys)

array_is : (vs : List Value)
    → AgreesAsItem (one_then (encoded (shortest_head 4 (length vs))) (each_encoding own_item vs))
    (value_encoding (sequence (items_view vs)))
array_is vs =
    let start = encoded (shortest_head 4 (length vs)) in
    agrees_on _ _ _ (agree_both start _ start _ (agrees _ _ refl) (items_joined vs))
    (one_head 4 _ _ (length vs) (some_holds_tag (items_view vs))
    (bytes_all (canonical_trees (items_view vs))) (definite_items vs).0 (definite_items vs).1)

map_is : (ms : List (Value × Value))
    → AgreesAsItem (one_then (encoded (shortest_head 5 (length ms))) (each_encoding own_pair ms))
    (value_encoding (mapping (pairs_view ms)))
map_is ms =
    let start = encoded (shortest_head 5 (length ms)) in
    agrees_on _ _ _ (agree_both start _ start _ (agrees _ _ refl) (pairs_joined ms))
    (one_head 5 _ _ (length ms) (pairs_hold_tag (pairs_view ms))
    (bytes_pairs (canonical_pairs (pairs_view ms)))
    (definite_pairs ms).0 (definite_pairs ms).1)

-- ---- what they cost

abbrev own_cost : Value → ℕ
own_cost v = any_cost (view v)

items_cost : (vs : List Value) → greatest_part_cost own_cost vs ≡ greatest_any_cost (items_view vs)
items_cost [] = refl
items_cost (v ∷ vs) = ap (max (own_cost v)) (items_cost vs)

pairs_cost : (ms : List (Value × Value))
    → greatest_part_cost (pair_cost own_cost own_cost) ms ≡ greatest_any_pair_cost (pairs_view ms)
pairs_cost [] = refl
pairs_cost (m ∷ ms) = ap (max (max (own_cost m.0) (own_cost m.1))) (pairs_cost ms)

-- ---- arrays and maps

abbrev IsBack : Value → Type 0
IsBack v = IsReadBack ReadsAny (own_item v) v (own_cost v)

under_value : {P : Type 0} (reads : Reads P) (k : AnyKind) (major : ℕ)
    → ((b : ℕ) → kind_by major b ≡ k) → kind (indefinite_head major) ≡ k → (ps : List P) (v : Value)
    → ((xs : List ℕ) (n c : ℕ) → ReadsSequence major reads true xs ps n c
    → KindAs ReadsAny k xs v n c)
    → (o : Encoding) (c : ℕ) → IsReadBack (ReadsSequence major reads true) o ps c
    → IsReadBack ReadsAny o v (1 + c)
under_value reads k major kinds opens ps v as_kind (rejected bytes words) c h = tt
under_value reads k major kinds opens ps v as_kind (encoded bytes) c h =
    λ rest. by_sequence reads k major kinds (bytes ++ rest) ps v (length bytes) c opens (h rest)
    (as_kind (bytes ++ rest) (length bytes) c (h rest))

two_steps : (c : ℕ) → 1 + (1 + c) ≡ 2 + c
two_steps c = omega arith

array_read : (vs : Vec Value Global) → All IsBack vs.items
    → BackAs (sequence (items_view vs.items)) (values.Array vs)
array_read vs all h =
    let read = sequence_read_back ReadsAny own_item own_cost 4 true vs.items
    (omega (arith, h.0, (definite_items vs.items).0)) all in
    let value = under_value ReadsAny Array 4 (λ b. refl) refl vs.items (values.Array vs)
    (λ xs n c r. (vs, r, refl)) _ _ read in
    let own = back_as ReadsAny (one_then (encoded (shortest_head 4 (length vs.items)))
    (each_encoding own_item vs.items)) (value_encoding (sequence (items_view vs.items)))
    (values.Array vs) (1 + (1 + greatest_part_cost own_cost vs.items)) (array_is vs.items) value in
    rw (items_cost vs.items, two_steps (greatest_any_cost (items_view vs.items))) at own

map_read : (ms : Vec (Value × Value) Global) → All (λ m. IsBack m.0) ms.items
    → All (λ m. IsBack m.1) ms.items → BackAs (mapping (pairs_view ms.items)) (values.Map ms)
map_read ms keys contents h =
    let entries =
    map_pairs_back ReadsAny ReadsAny own_item own_item own_cost own_cost ms.items keys contents in
    let read =
    sequence_read_back (ReadsPair ReadsAny ReadsAny) own_pair (pair_cost own_cost own_cost) 5
    true ms.items (omega (arith, h.0, (definite_pairs ms.items).0)) entries in
    let value =
    under_value (ReadsPair ReadsAny ReadsAny) Map 5 (λ b. refl) refl ms.items (values.Map ms)
    (λ xs n c r. (ms, r, refl)) _ _ read in
    let own = back_as ReadsAny
    (one_then (encoded (shortest_head 5 (length ms.items))) (each_encoding own_pair ms.items))
    (value_encoding (mapping (pairs_view ms.items))) (values.Map ms)
    (1 + (1 + greatest_part_cost (pair_cost own_cost own_cost) ms.items)) (map_is ms.items) value in
    rw (pairs_cost ms.items, two_steps (greatest_any_pair_cost (pairs_view ms.items))) at own

-- ---- any value

tag_back : (n : ℕ) (b : Box Value Global) → Back (values.Tag n b)
tag_back n b =
    as_seen (values.Tag n b) (tag n (view b.value)) (search (rules, the_lemmas)) (λ h. tt)

-- a value is read back where those inside it are
module _ {E : Type 0} (f : E → Value) (back : (e : E) → Back (f e)) where
  all_back : (es : List E) → AreItems (items_view (map f es)) → All IsBack (map f es)
  all_back [] h = All-nil IsBack
  all_back (e ∷ es) h = All-cons IsBack (f e) (map f es) (back e h.0) (all_back es h.1)

  abbrev both : E × E → Value × Value
  both p = (f p.0, f p.1)

  keys_back : (es : List (E × E)) → AreItemPairs (pairs_view (map both es))
      → All (λ m. IsBack m.0) (map both es)
  keys_back [] h = All-nil (λ m. IsBack m.0)
  keys_back (e ∷ es) h =
      All-cons (λ m. IsBack m.0) (both e) (map both es) (back e.0 h.0) (keys_back es h.2)

  contents_back : (es : List (E × E)) → AreItemPairs (pairs_view (map both es))
      → All (λ m. IsBack m.1) (map both es)
  contents_back [] h = All-nil (λ m. IsBack m.1)
  contents_back (e ∷ es) h =
      All-cons (λ m. IsBack m.1) (both e) (map both es) (back e.1 h.1) (contents_back es h.2)

  arrays_back : (w : Vec Value Global) (es : List E) → w.items ≡ map f es → Back (values.Array w)
  arrays_back w es e =
      as_seen (values.Array w) (sequence (items_view w.items)) (search (rules, the_lemmas))
      (λ h. array_read w (subst (All IsBack) (sym e)
      (all_back es (subst (λ vs. AreItems (items_view vs)) e h.1))) h)

  maps_back : (w : Vec (Value × Value) Global) (es : List (E × E)) → w.items ≡ map both es
      → Back (values.Map w)
  maps_back w es e =
      as_seen (values.Map w) (mapping (pairs_view w.items)) (search (rules, the_lemmas)) (λ h.
      let each = subst (λ ms. AreItemPairs (pairs_view ms)) e h.1 in
      map_read w (subst (All (λ m. IsBack m.0)) (sym e) (keys_back es each))
      (subst (All (λ m. IsBack m.1)) (sym e) (contents_back es each)) h)

  one_more : (y : Value-F E) → Back (values.roll-Value (values.map-Value E Value f y))
  one_more Value-F.Null = subst Back (sym variants.rolls-Null) null_back
  one_more (Value-F.Bool b) = subst Back (sym (variants.rolls-Bool b)) (bool_back b)
  one_more (Value-F.Integer z) = subst Back (sym (variants.rolls-Integer z)) (integer_back z)
  one_more (Value-F.Float bits) = subst Back (sym (variants.rolls-Float bits)) (floats_back bits)
  one_more (Value-F.Bytes v) = subst Back (sym (variants.rolls-Bytes v)) (bytes_back v)
  one_more (Value-F.Text s) = subst Back (sym (variants.rolls-Text s)) (texts_back s)
  one_more (Value-F.Array vs) =
      let w = mapped f vs in subst Back (sym (variants.rolls-Array w)) (arrays_back w vs.items refl)
  one_more (Value-F.Map ms) =
      let w = mapped both ms in subst Back (sym (variants.rolls-Map w)) (maps_back w ms.items refl)
  one_more (Value-F.Tag n b) =
      let w : Box Value Global = record { ptr = b.ptr; alloc = b.alloc; value = f b.value } in
      subst Back (sym (variants.rolls-Tag n w)) (tag_back n w)

pub value_back : (v : Value) → Back v
value_back =
    ind-Value Back
    (λ x y is. subst (λ z. Back (values.roll-Value z)) is (one_more (λ e. e.0) (λ e. e.1) y))

-- ---- the canonical encoding costs no less

least_integer : (t : Bool) (s : Sign) (n : ℕ)
    → 1 ≤ cost (cond t (int s n (shortest_width n)) (bignum s n))
least_integer true s n = omega arith
least_integer false s n = omega arith

mutual
  pub cost_least : (v : Item) → any_cost v ≤ canonical_cost v
  cost_least (integer (pos n)) = least_integer (ltb n (2 ^ 64)) unsigned n
  cost_least (integer (negsuc n)) = least_integer (ltb n (2 ^ 64)) negative n
  cost_least (sequence vs) = omega (arith, costs_least vs)
  cost_least (mapping ms) = omega (arith, pair_costs_least ms)
  cost_least (tag n v) = omega (arith, cost_least v)
  cost_least _ = omega arith

  costs_least : (vs : Items) → greatest_any_cost vs ≤ Cost.greatest_cost (canonical_trees vs)
  costs_least no_items = omega arith
  costs_least (item v vs) = omega (arith, cost_least v, costs_least vs)

  pair_costs_least : (ms : ItemPairs)
      → greatest_any_pair_cost ms ≤ Cost.greatest_pair_cost (canonical_pairs ms)
  pair_costs_least no_item_pairs = omega arith
  pair_costs_least (item_pair k v ms) = omega (
    arith,
    cost_least k,
    cost_least v,
    pair_costs_least
        ms,
  )
