-- What is written as an item of the tree is read back as a value that is this item.
use Rattle.std.proofs.Common.{◌≡◌, ◌∙◌, ℕ, suc, ◌<◌, ◌^◌, pos, List, [], ◌∷◌, ◌++◌}
use Rattle.std.proofs.Common.{length, map, false, ◌||◌, ltb, refl, sym, ap, ap₂, subst}
use Rattle.std.proofs.Common.{arith, rules, append_assoc, IsTrue}
use Rattle.std.proofs.lemmas.Bool.{lt-ltb}
use Rattle.std.proofs.lemmas.List.{length-map}
use Rattle.std.proofs.lemmas.Str.{IsUtf8-string_bytes}
use Rattle.std.specs.Prelude.{string_bytes, if◌then◌else◌, ◌&&◌}
use Rattle.std.specs.declared.alloc.Global.{Global}
use Rattle.std.specs.declared.string.String.{String}
use Rattle.std.specs.declared.vec.Vec.{Vec}
use denote.RawPtr.{null_ptr}
use Rattle.cbor4ii_items.specs.Head.{head, shortest_width}
use Rattle.cbor4ii_items.specs.Initial.{unsigned, Precision, half, single, double}
use Rattle.cbor4ii_items.specs.Numbers.{shortest_head}
use Rattle.cbor4ii_items.specs.Strings.{definite_string}
use Rattle.cbor4ii_tree.specs.Basis.Canonical.{canonical_encoding, canonical_trees, canonical_pairs}
use Rattle.cbor4ii_tree.specs.Basis.Canonical.{bignum}
use Rattle.cbor4ii_tree.specs.Basis.Tree.{int, bytes, bytes_all, bytes_pairs, count, pair_count}
use Rattle.cbor4ii_tree.specs.Basis.Item.{Item, null, boolean, integer, float, bytes_item, text}
use Rattle.cbor4ii_tree.specs.Basis.Item.{sequence}
use Rattle.cbor4ii_tree.specs.Basis.Item.{mapping, tag, Items, no_items, item, ItemPairs}
use Rattle.cbor4ii_tree.specs.Basis.Item.{no_item_pairs}
use Rattle.cbor4ii_tree.specs.Basis.Item.{item_pair, item_count, item_pair_count, IsItem, AreItems}
use Rattle.cbor4ii_tree.specs.Basis.Item.{AreItemPairs}
use Rattle.cbor4ii_tree.specs.Basis.View.{view, items_view, pairs_view}
use Rattle.cbor4ii_tree.specs.declared.value.FloatBits.TheVariants as float_bits
use Rattle.cbor4ii_tree.specs.declared.value.Value.{Value, the_lemmas}
use Rattle.cbor4ii_tree.specs.declared.value.Value as values
use Rattle.cbor4ii_ser.specs.Item.{Encoding, encoded, one_then, parts, field}
use Rattle.cbor4ii_ser.specs.Item.{tuple_encoding, array_encoding, struct_encoding, variant_head}
use Rattle.cbor4ii_ser.specs.Item.{variant_encoding, tuple_variant_encoding}
use Rattle.cbor4ii_ser.specs.OneItem.{IsOneItem, canonical}
use Rattle.cbor4ii_ser.specs.Values.{holds_tag, some_holds_tag, pairs_hold_tag, unless}
use Rattle.cbor4ii_ser.specs.Values.{value_encoding}
use Rattle.cbor4ii_ser.specs.Laws.Joining.{followed_both, followed_nil}
use Rattle.cbor4ii_ser.specs.Laws.ValueItems.{value_is_item}
use Rattle.cbor4ii.specs.Any.{ReadsAny}
use Rattle.cbor4ii.specs.AnyCost.{any_cost}
use Rattle.cbor4ii.specs.FieldKey.{are_ascii, is_name}
use Rattle.cbor4ii.specs.Held.{IsHeld, AreHeld, AreHeldPairs, IsWrittenAs, AreWrittenAs}
use Rattle.cbor4ii.specs.Held.{AreWrittenAsPairs}
use Rattle.cbor4ii.specs.Laws.Shown.{view-Array, view-Map}
use Rattle.cbor4ii.specs.Laws.ValuesBack.{value_back}
use Rattle.cbor4ii.specs.ReadBack.{IsReadBack, text_of}

-- ---- a value that is this item

-- a vector of these
abbrev vector_of : {A : Type 0} → Global → (items : List A) → length items < 2 ^ 63 → Vec A Global
vector_of alloc items few = record {
  ptr = null_ptr;
  len = length items;
  cap = length items;
  alloc = alloc;
  items = items;
  ok = (refl, omega arith);
  small = few;
}

-- some value is this item, and likewise of several
pub record ValueOf (v : Item) : Type 0 where
  pub value : Value
  pub is : view value ≡ v

record ValuesOf (vs : Items) : Type 0 where
  values : List Value
  are : items_view values ≡ vs
  many : length values ≡ item_count vs

record PairsOf (ms : ItemPairs) : Type 0 where
  values : List (Value × Value)
  are : pairs_view values ≡ ms
  many : length values ≡ item_pair_count ms

float_of : (p : Precision) (n : ℕ) → ValueOf (float p n)
float_of half n =
    record { value = values.Float (float_bits.F16 n); is = search (rules, the_lemmas) }
float_of single n =
    record { value = values.Float (float_bits.F32 n); is = search (rules, the_lemmas) }
float_of double n =
    record { value = values.Float (float_bits.F64 n); is = search (rules, the_lemmas) }

bytes_of : (v : Vec ℕ Global) → ValueOf (bytes_item v.items)
bytes_of v = record { value = values.Bytes v; is = search (rules, the_lemmas) }

text_value : (s : String Global) → ValueOf (text (string_bytes s))
text_value s = record { value = values.Text s; is = search (rules, the_lemmas) }

mutual
  -- Each item that a value can be is some value, whose parts lie in memory of this allocator.
  pub held_value : Global → (v : Item) → IsHeld v → ValueOf v
  held_value alloc null h = record { value = values.Null; is = search (rules, the_lemmas) }
  held_value alloc (boolean b) h =
      record { value = values.Bool b; is = search (rules, the_lemmas) }
  held_value alloc (integer z) h =
      record { value = values.Integer z; is = search (rules, the_lemmas) }
  held_value alloc (float p n) h = float_of p n
  held_value alloc (bytes_item bs) h = bytes_of (vector_of alloc bs h)
  held_value alloc (text bs) h = text_value (text_of alloc bs h.0 h.1)
  held_value alloc (sequence vs) h =
      let inside = held_values alloc vs h.1 in
      let few : length inside.values < 2 ^ 63 = omega (arith, h.0, inside.many) in
      record {
        value = values.Array (vector_of alloc inside.values few);
        is = view-Array (vector_of alloc inside.values few) ∙ ap sequence inside.are;
      }
  held_value alloc (mapping ms) h =
      let inside = held_pairs alloc ms h.1 in
      let few : length inside.values < 2 ^ 63 = omega (arith, h.0, inside.many) in
      record {
        value = values.Map (vector_of alloc inside.values few);
        is = view-Map (vector_of alloc inside.values few) ∙ ap mapping inside.are;
      }
  held_value alloc (tag n v) h = absurd h

  held_values : Global → (vs : Items) → AreHeld vs → ValuesOf vs
  held_values alloc no_items h = record { values = []; are = refl; many = refl }
  held_values alloc (item v vs) h =
      let first = held_value alloc v h.0 in
      let others = held_values alloc vs h.1 in
      record {
        values = first.value ∷ others.values;
        are = ap₂ item first.is others.are;
        many = ap suc others.many;
      }

  held_pairs : Global → (ms : ItemPairs) → AreHeldPairs ms → PairsOf ms
  held_pairs alloc no_item_pairs h = record { values = []; are = refl; many = refl }
  held_pairs alloc (item_pair k v ms) h =
      let key = held_value alloc k h.0 in
      let first = held_value alloc v h.1 in
      let others = held_pairs alloc ms h.2 in
      record {
        values = (key.value, first.value) ∷ others.values;
        are = ap₂ (λ a b. item_pair a b (pairs_view others.values)) key.is first.is
            ∙ ap (item_pair k v) others.are;
        many = ap suc others.many;
      }

-- ---- it is written and read back

mutual
  is_item : (v : Item) → IsHeld v → IsItem v
  is_item (integer z) h = h
  is_item (float p n) h = h
  is_item (bytes_item bs) h = omega (arith, h)
  is_item (text bs) h = (omega (arith, h.1), h.0)
  is_item (sequence vs) h = (omega (arith, h.0), are_items vs h.1)
  is_item (mapping ms) h = (omega (arith, h.0), are_pairs ms h.1)
  is_item (tag n v) h = absurd h
  is_item _ h = tt

  are_items : (vs : Items) → AreHeld vs → AreItems vs
  are_items no_items h = tt
  are_items (item v vs) h = (is_item v h.0, are_items vs h.1)

  are_pairs : (ms : ItemPairs) → AreHeldPairs ms → AreItemPairs ms
  are_pairs no_item_pairs h = tt
  are_pairs (item_pair k v ms) h = (is_item k h.0, is_item v h.1, are_pairs ms h.2)

mutual
  untagged : (v : Item) → IsHeld v → holds_tag v ≡ false
  untagged (sequence vs) h = all_untagged vs h.1
  untagged (mapping ms) h = pairs_untagged ms h.1
  untagged (tag n v) h = absurd h
  untagged _ h = refl

  all_untagged : (vs : Items) → AreHeld vs → some_holds_tag vs ≡ false
  all_untagged no_items h = refl
  all_untagged (item v vs) h = ap₂ (λ a b. a || b) (untagged v h.0) (all_untagged vs h.1)

  pairs_untagged : (ms : ItemPairs) → AreHeldPairs ms → pairs_hold_tag ms ≡ false
  pairs_untagged no_item_pairs h = refl
  pairs_untagged (item_pair k v ms) h =
      ap₂ (λ a b. a || b) (ap₂ (λ a b. a || b) (untagged k h.0) (untagged v h.1))
      (pairs_untagged ms h.2)

item_written : (v : Item) → IsHeld v → value_encoding v ≡ encoded (canonical_encoding v)
item_written v h = ap (λ t. unless t (canonical_encoding v)) (untagged v h)

-- What is written as an item is read back as each value that is this item.
pub written_back : (encoding : Encoding) (v : Item) → IsWrittenAs encoding v → (held : ValueOf v)
    → IsReadBack ReadsAny encoding held.value (any_cost v)
written_back encoding v h held =
    subst (λ (e : Encoding). IsReadBack ReadsAny e held.value (any_cost v))
    (item_written v h.held ∙ sym h.is)
    (subst (λ i. IsItem i → IsReadBack ReadsAny (value_encoding i) held.value (any_cost i)) held.is
    (value_back held.value) (is_item v h.held))

-- it is one canonical item
pub written_one : (encoding : Encoding) (v : Item) → IsWrittenAs encoding v
    → IsOneItem canonical encoding
written_one encoding v h =
    subst (λ (e : Encoding). IsOneItem canonical e) (item_written v h.held ∙ sym h.is)
    (value_is_item canonical v (is_item v h.held))

-- ---- what is written as an item: items that hold no other

pub unsigned_as : (n : ℕ) → n < 2 ^ 64
    → IsWrittenAs (encoded (shortest_head 0 n)) (integer (pos n))
unsigned_as n h = record {
  held = omega (arith, h);
  is = sym (ap (λ t. encoded (bytes (if t then int unsigned n (shortest_width n) else bignum
      unsigned n)))
      (lt-ltb n (2 ^ 64) h));
}

pub string_as : (s : String Global)
    → IsWrittenAs (encoded (definite_string 3 (string_bytes s))) (text (string_bytes s))
string_as s = record {
  held = (IsUtf8-string_bytes s, omega (arith, s.bytes.ok.0, s.bytes.ok.1, s.bytes.small));
  is = refl;
}

-- a name alone, as of a variant that has no content
pub name_as : (name : List ℕ) → IsTrue (are_ascii name && ltb (length name) 256)
    → IsWrittenAs (encoded (definite_string 3 name)) (text name)
name_as name ok = record { held = is_name name ok; is = refl }

-- ---- items that hold others

encoded_both : (xs ys : List ℕ) → one_then (encoded xs) (encoded ys) ≡ encoded (xs ++ ys)
unfolding one_then
encoded_both xs ys = refl

-- so many parts after the head that counts them
headed : (major n m k : ℕ) (ps : List Encoding) (ys : List ℕ) → n ≡ k → m ≡ k
    → parts ps ≡ encoded ys
    → one_then (encoded (shortest_head major n)) (parts ps)
    ≡ encoded (head major m (shortest_width k) ++ ys)
headed major n m k ps ys e f is =
    ap (one_then (encoded (shortest_head major n))) is ∙ encoded_both (shortest_head major n) ys
    ∙ ap₂ (λ i j. encoded (head major i (shortest_width j) ++ ys)) (e ∙ sym f) e

-- parts of an array: none, and one before others
pub no_parts : AreWrittenAs [] no_items
no_parts = record { held = tt; are = refl; many = refl }

pub part_before : {p : Encoding} {v : Item} {ps : List Encoding} {vs : Items} → IsWrittenAs p v
    → AreWrittenAs ps vs → AreWrittenAs (p ∷ ps) (item v vs)
part_before {v = v} {vs = vs} h others = record {
  held = (h.held, others.held);
  are = ap₂ one_then h.is others.are
      ∙ encoded_both (canonical_encoding v) (bytes_all (canonical_trees vs));
  many = ap suc others.many;
}

count_trees : (vs : Items) → count (canonical_trees vs) ≡ item_count vs
count_trees no_items = refl
count_trees (item v vs) = ap suc (count_trees vs)

-- an array of these parts
pub array_as : {ps : List Encoding} {vs : Items} → AreWrittenAs ps vs → length ps < 2 ^ 63
    → IsWrittenAs (tuple_encoding ps) (sequence vs)
array_as {ps = ps} {vs = vs} h few = record {
  held = (omega (arith, few, h.many), h.held);
  is = headed 4 (length ps) (count (canonical_trees vs)) (item_count vs) ps
      (bytes_all (canonical_trees vs)) h.many (count_trees vs) h.are;
}

-- an array of what a vector holds, each written by `encoding`
pub vector_as : {T : Type 0} (encoding : T → Encoding) (v : Vec T Global) {vs : Items}
    → AreWrittenAs (map encoding v.items) vs
    → IsWrittenAs (array_encoding (λ part. part) (map encoding v.items)) (sequence vs)
vector_as encoding v h =
    array_as h (omega (arith, length-map v.items encoding, v.ok.0, v.ok.1, v.small))

-- pairs of a map: none, and one before others
pub no_pairs_written : AreWrittenAsPairs [] no_item_pairs
no_pairs_written = record { held = tt; are = refl; many = refl }

pub written_pair_before : {key value : Encoding} {k v : Item} {ps : List Encoding} {ms : ItemPairs}
    → IsWrittenAs key k → IsWrittenAs value v → AreWrittenAsPairs ps ms
    → AreWrittenAsPairs (one_then key value ∷ ps) (item_pair k v ms)
written_pair_before {k = k} {v = v} {ms = ms} h i others =
    let rest = bytes_pairs (canonical_pairs ms) in
    record {
      held = (h.held, i.held, others.held);
      are = ap₂ one_then (ap₂ one_then h.is i.is
          ∙ encoded_both (canonical_encoding k) (canonical_encoding v)) others.are
          ∙ encoded_both (canonical_encoding k ++ canonical_encoding v) rest
          ∙ ap encoded (append_assoc (canonical_encoding k) (canonical_encoding v) rest);
      many = ap suc others.many;
    }

-- a name and its value, before other fields
pub field_before : (name : List ℕ) {value : Encoding} {v : Item} {ps : List Encoding}
    {ms : ItemPairs}
    → IsTrue (are_ascii name && ltb (length name) 256) → IsWrittenAs value v
    → AreWrittenAsPairs ps ms
    → AreWrittenAsPairs (field name value ∷ ps) (item_pair (text name) v ms)
field_before name ok = written_pair_before (name_as name ok)

count_pairs : (ms : ItemPairs) → pair_count (canonical_pairs ms) ≡ item_pair_count ms
count_pairs no_item_pairs = refl
count_pairs (item_pair k v ms) = ap suc (count_pairs ms)

-- a map of these pairs
pub struct_as : {ps : List Encoding} {ms : ItemPairs} → AreWrittenAsPairs ps ms → length ps < 2 ^ 63
    → IsWrittenAs (struct_encoding ps) (mapping ms)
struct_as {ps = ps} {ms = ms} h few = record {
  held = (omega (arith, few, h.many), h.held);
  is = headed 5 (length ps) (pair_count (canonical_pairs ms)) (item_pair_count ms) ps
      (bytes_pairs (canonical_pairs ms)) h.many (count_pairs ms) h.are;
}

variant_is_struct : (name : List ℕ) (content : Encoding)
    → struct_encoding (field name content ∷ []) ≡ variant_encoding name content
variant_is_struct name content =
    ap (one_then (encoded (shortest_head 5 1))) (followed_nil (field name content))
    ∙ sym (followed_both (shortest_head 5 1) (definite_string 3 name) content)

-- a variant that has content
pub variant_as : (name : List ℕ) {content : Encoding} {v : Item}
    → IsTrue (are_ascii name && ltb (length name) 256) → IsWrittenAs content v
    → IsWrittenAs (variant_encoding name content) (mapping (item_pair (text name) v no_item_pairs))
variant_as name {content = content} {v = v} ok h =
    subst (λ (e : Encoding). IsWrittenAs e (mapping (item_pair (text name) v no_item_pairs)))
    (variant_is_struct name content)
    (struct_as (field_before name ok h no_pairs_written) (omega arith))

-- one whose content is an array of these parts
pub tuple_variant_as : (name : List ℕ) {ps : List Encoding} {vs : Items}
    → IsTrue (are_ascii name && ltb (length name) 256) → AreWrittenAs ps vs → length ps < 2 ^ 63
    → IsWrittenAs (tuple_variant_encoding name ps)
    (mapping (item_pair (text name) (sequence vs) no_item_pairs))
tuple_variant_as name {ps = ps} {vs = vs} ok h few =
    subst (λ (e : Encoding). IsWrittenAs e
    (mapping (item_pair (text name) (sequence vs) no_item_pairs)))
    (sym (followed_both (variant_head name) (shortest_head 4 (length ps)) (parts ps)))
    (variant_as name ok (array_as h few))
