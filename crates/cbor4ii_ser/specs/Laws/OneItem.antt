-- What is put together of items is an item.
use Rattle.std.proofs.Common.{◌≡◌, ◌≢◌, ℕ, suc, ◌^◌, ◌<◌, ◌≤◌, List, [], ◌∷◌, ◌++◌, length, Bool}
use Rattle.std.proofs.Common.{true, false, Option, Some, None, refl, sym, ap, ap₂, ◌∙◌, subst}
use Rattle.std.proofs.Common.{arith}
use Rattle.std.proofs.Common.{append_assoc, ltb, ltb-true, encode_utf8}
use Rattle.std.specs.Prelude.{All, IsUtf8, string_bytes, ℤ, pos, negsuc}
use Rattle.std.specs.Char.{IsScalar}
use Rattle.std.specs.Int.{bytes_high_first}
use Rattle.std.specs.List.{AllByRecursion}
use Rattle.std.specs.declared.alloc.Global.{Global}
use Rattle.std.specs.declared.string.String.{String}
use Rattle.std.proofs.lemmas.List.Elements.{All-head, All-tail}
use Rattle.std.proofs.lemmas.Str.{IsUtf8-encode, IsUtf8-string_bytes, length-encode}
use Rattle.std.proofs.lemmas.Str.{len_utf8_bounds}
use Rattle.cbor4ii_items.specs.Head.{shortest_width}
use Rattle.cbor4ii_items.specs.Initial.{Sign, unsigned, negative, sign_major, Kind, byte_string}
use Rattle.cbor4ii_items.specs.Initial.{text_string, kind_major, Simple, simple_false, simple_true}
use Rattle.cbor4ii_items.specs.Initial.{simple_null, simple_undefined, simple_byte, Precision}
use Rattle.cbor4ii_items.specs.Initial.{precision_byte, precision_bytes}
use Rattle.cbor4ii_items.specs.Floats.{float_bytes}
use Rattle.cbor4ii_items.specs.Magnitude.{magnitude}
use Rattle.cbor4ii_items.specs.Numbers.{shortest_head, signed_head, signed_bytes, unsigned_bytes}
use Rattle.cbor4ii_items.specs.Numbers.{integer_bytes, bignum_bytes, IsWithin}
use Rattle.cbor4ii_items.specs.Simple.{bool_byte}
use Rattle.cbor4ii_items.specs.Strings.{definite_string, open_head, break_bytes}
use Rattle.cbor4ii_items.specs.Laws.Heads.{length-bytes_high_first, if_cases, shortest_fits}
use Rattle.cbor4ii_items.specs.Laws.NumbersBack.{length-without_leading_zeros}
use Rattle.cbor4ii_tree.specs.Basis.Tree.{Tree, int, string, chunked, array, array_indefinite}
use Rattle.cbor4ii_tree.specs.Basis.Tree.{map_of}
use Rattle.cbor4ii_tree.specs.Basis.Tree.{map_indefinite}
use Rattle.cbor4ii_tree.specs.Basis.Tree.{tagged, simple, bits, Trees, no_trees, tree, Pairs}
use Rattle.cbor4ii_tree.specs.Basis.Tree.{no_pairs}
use Rattle.cbor4ii_tree.specs.Basis.Tree.{pair, count, pair_count, bytes, bytes_all, bytes_pairs}
use Rattle.cbor4ii_tree.specs.Basis.Tree.{LooseAll, LoosePairs, SoundStringsAll, SoundStringsPairs}
use Rattle.cbor4ii_tree.specs.Basis.Tree.{TextIsUtf8}
use Rattle.cbor4ii_tree.specs.Calls.CanonicalShape.{CanonicalShape, CanonicalShapeAll}
use Rattle.cbor4ii_tree.specs.Calls.CanonicalShape.{CanonicalShapePairs}
use Rattle.cbor4ii_ser.specs.Item.{Encoding, encoded, rejected, IfEncoded, one_then, each_encoding}
use Rattle.cbor4ii_ser.specs.Item.{parts, tuple_encoding, array_encoding, pair_encoding}
use Rattle.cbor4ii_ser.specs.Item.{map_encoding, field}
use Rattle.cbor4ii_ser.specs.Item.{struct_encoding, option_encoding, variant_head, variant_encoding}
use Rattle.cbor4ii_ser.specs.Item.{tuple_variant_encoding, struct_variant_encoding}
use Rattle.cbor4ii_ser.specs.OneItem.{ShortestHeads, AllShortestHeads, PairsShortestHeads, Form}
use Rattle.cbor4ii_ser.specs.OneItem.{shortest_heads, canonical, IsOfForm, OneItem, IsOneItem}
use Rattle.cbor4ii_ser.specs.OneItem.{OnePair, IsOnePair, collected_encoding}
use Rattle.cbor4ii_ser.specs.Laws.Joining.{followed_both, followed_nil}

-- ---- trees

pub int_formed : (form : Form) (s : Sign) (n : ℕ) → n < 2 ^ 64
    → IsOfForm form (int s n (shortest_width n))
int_formed shortest_heads s n h = ((shortest_fits n h, tt), refl)
int_formed canonical s n h = ((shortest_fits n h, tt), refl)

pub string_formed : (form : Form) (k : Kind) (content : List ℕ) → length content < 2 ^ 64
    → TextIsUtf8 k content → IsOfForm form (string k (shortest_width (length content)) content)
string_formed shortest_heads k content h utf8 = ((shortest_fits (length content) h, utf8), refl)
string_formed canonical k content h utf8 = ((shortest_fits (length content) h, utf8), refl)

pub simple_formed : (form : Form) (s : Simple) → s ≢ simple_undefined → IsOfForm form (simple s)
simple_formed shortest_heads s h = ((tt, tt), tt)
simple_formed canonical s h = ((tt, tt), h)

pub bits_formed : (form : Form) (p : Precision) (n : ℕ) → n < 256 ^ precision_bytes p
    → IsOfForm form (bits p n)
bits_formed shortest_heads p n h = ((h, tt), tt)
bits_formed canonical p n h = ((h, tt), tt)

pub tag_formed : (form : Form) (n : ℕ) (t : Tree) → n < 2 ^ 64 → IsOfForm form t
    → IsOfForm form (tagged n (shortest_width n) t)
tag_formed shortest_heads n t h p = (((shortest_fits n h, p.0.0), p.0.1), (refl, p.1))
tag_formed canonical n t h p = (((shortest_fits n h, p.0.0), p.0.1), (refl, p.1))

-- each of the trees is of the form
abbrev pub AreOfForm : Form → Trees → Type 0
AreOfForm shortest_heads ts = (LooseAll ts × SoundStringsAll ts) × AllShortestHeads ts
AreOfForm canonical ts = (LooseAll ts × SoundStringsAll ts) × CanonicalShapeAll ts

pub none_formed : (form : Form) → AreOfForm form no_trees
none_formed shortest_heads = ((tt, tt), tt)
none_formed canonical = ((tt, tt), tt)

pub more_formed : (form : Form) (t : Tree) (ts : Trees) → IsOfForm form t → AreOfForm form ts
    → AreOfForm form (tree t ts)
more_formed shortest_heads t ts p q = (((p.0.0, q.0.0), (p.0.1, q.0.1)), (p.1, q.1))
more_formed canonical t ts p q = (((p.0.0, q.0.0), (p.0.1, q.0.1)), (p.1, q.1))

pub array_formed : (form : Form) (ts : Trees) → count ts < 2 ^ 64 → AreOfForm form ts
    → IsOfForm form (array (shortest_width (count ts)) ts)
array_formed shortest_heads ts h p = (((shortest_fits (count ts) h, p.0.0), p.0.1), (refl, p.1))
array_formed canonical ts h p = (((shortest_fits (count ts) h, p.0.0), p.0.1), (refl, p.1))

-- each key and each value is of the form
abbrev pub ArePairsOfForm : Form → Pairs → Type 0
ArePairsOfForm shortest_heads ps = (LoosePairs ps × SoundStringsPairs ps) × PairsShortestHeads ps
ArePairsOfForm canonical ps = (LoosePairs ps × SoundStringsPairs ps) × CanonicalShapePairs ps

pub no_pairs_formed : (form : Form) → ArePairsOfForm form no_pairs
no_pairs_formed shortest_heads = ((tt, tt), tt)
no_pairs_formed canonical = ((tt, tt), tt)

pub more_pairs_formed : (form : Form) (k v : Tree) (ps : Pairs) → IsOfForm form k → IsOfForm form v
    → ArePairsOfForm form ps → ArePairsOfForm form (pair k v ps)
more_pairs_formed shortest_heads k v ps p q r =
    (((p.0.0, q.0.0, r.0.0), (p.0.1, q.0.1, r.0.1)), (p.1, q.1, r.1))
more_pairs_formed canonical k v ps p q r =
    (((p.0.0, q.0.0, r.0.0), (p.0.1, q.0.1, r.0.1)), (p.1, q.1, r.1))

pub map_formed : (form : Form) (ps : Pairs) → pair_count ps < 2 ^ 64 → ArePairsOfForm form ps
    → IsOfForm form (map_of (shortest_width (pair_count ps)) ps)
map_formed shortest_heads ps h p =
    (((shortest_fits (pair_count ps) h, p.0.0), p.0.1), (refl, p.1))
map_formed canonical ps h p = (((shortest_fits (pair_count ps) h, p.0.0), p.0.1), (refl, p.1))

-- ---- each of a list

pub by_recursion : {V : Type 0} (P : V → Type 0) (vs : List V) → All P vs → AllByRecursion P vs
by_recursion P [] h = tt
by_recursion P (v ∷ vs) h = (All-head P v vs h, by_recursion P vs (All-tail P v vs h))

-- ---- one encoding after another

if_followed : (P Q R : List ℕ → Type 0) (a b : Encoding)
    → ((xs ys : List ℕ) → P xs → Q ys → R (xs ++ ys)) → IfEncoded a P → IfEncoded b Q
    → IfEncoded (one_then a b) R
unfolding one_then
if_followed P Q R (rejected xs words) b f p q = tt
if_followed P Q R (encoded xs) (rejected ys words) f p q = tt
if_followed P Q R (encoded xs) (encoded ys) f p q = f xs ys p q

-- a head, or a name, and what follows it
if_headed : (Q R : List ℕ → Type 0) (xs : List ℕ) (b : Encoding)
    → ((ys : List ℕ) → Q ys → R (xs ++ ys)) → IfEncoded b Q → IfEncoded (one_then (encoded xs) b) R
if_headed Q R xs b f q = if_followed (λ zs. zs ≡ xs) Q R (encoded xs) b (λ zs ys e p.
    subst (λ z. R (z ++ ys)) (sym e) (f ys p)) refl q

-- ---- canonical items have shortest heads

mutual
  shortest_in_shape : (t : Tree) → CanonicalShape t → ShortestHeads t
  shortest_in_shape (int s n w) h = h
  shortest_in_shape (string k w content) h = h
  shortest_in_shape (chunked k ts) h = absurd h
  shortest_in_shape (array w ts) h = (h.0, all_in_shape ts h.1)
  shortest_in_shape (array_indefinite ts) h = absurd h
  shortest_in_shape (map_of w ps) h = (h.0, pairs_in_shape ps h.1)
  shortest_in_shape (map_indefinite ps) h = absurd h
  shortest_in_shape (tagged n w t) h = (h.0, shortest_in_shape t h.1)
  shortest_in_shape (simple s) h = tt
  shortest_in_shape (bits p n) h = tt

  all_in_shape : (ts : Trees) → CanonicalShapeAll ts → AllShortestHeads ts
  all_in_shape no_trees h = tt
  all_in_shape (tree t ts) h = (shortest_in_shape t h.0, all_in_shape ts h.1)

  pairs_in_shape : (ps : Pairs) → CanonicalShapePairs ps → PairsShortestHeads ps
  pairs_in_shape no_pairs h = tt
  pairs_in_shape (pair k v ps) h =
      (shortest_in_shape k h.0, shortest_in_shape v h.1, pairs_in_shape ps h.2)

pub canonical_is_item : (form : Form) (item : Encoding) → IsOneItem canonical item
    → IsOneItem form item
canonical_is_item form (rejected xs words) p = tt
canonical_is_item canonical (encoded xs) p = p
canonical_is_item shortest_heads (encoded xs) p = record {
  of_tree = p.of_tree;
  formed = (p.formed.0, shortest_in_shape p.of_tree p.formed.1);
  bytes_are = p.bytes_are;
}

-- ---- leaves

-- a number within a limit is within a greater one
pub within_greater : (limit greater : ℕ) (v : ℤ) → limit ≤ greater → IsWithin limit v
    → IsWithin greater v
within_greater limit greater (pos n) le h = omega (arith, le, h)
within_greater limit greater (negsuc n) le h = omega (arith, le, h)

module _ (form : Form) where
  head_is_item : (s : Sign) (n : ℕ) → n < 2 ^ 64 → OneItem form (shortest_head (sign_major s) n)
  head_is_item s n h =
      record {
        of_tree = int s n (shortest_width n);
        formed = int_formed form s n h;
        bytes_are = refl;
      }

  -- an unsigned integer
  pub unsigned_is_item : (n : ℕ) → n < 2 ^ 64 → IsOneItem form (encoded (shortest_head 0 n))
  unsigned_is_item n h = head_is_item unsigned n h

  -- a signed integer that has a head
  pub signed_is_item : (v : ℤ) → IsWithin (2 ^ 64) v → IsOneItem form (encoded (signed_head v))
  signed_is_item (pos n) h = head_is_item unsigned n h
  signed_is_item (negsuc n) h = head_is_item negative n h

  string_is_item : (k : Kind) (content : List ℕ) → length content < 2 ^ 64 → TextIsUtf8 k content
      → OneItem form (definite_string (kind_major k) content)
  string_is_item k content h utf8 = record {
    of_tree = string k (shortest_width (length content)) content;
    formed = string_formed form k content h utf8;
    bytes_are = refl;
  }

  -- a text, as the name of a variant that has no content
  pub text_is_item : (content : List ℕ) → length content < 2 ^ 64 → IsUtf8 content
      → IsOneItem form (encoded (definite_string 3 content))
  text_is_item content h utf8 = string_is_item text_string content h utf8

  -- a text that the program owns
  pub owned_text_is_item : (v : String Global)
      → IsOneItem form (encoded (definite_string 3 (string_bytes v)))
  owned_text_is_item v =
      text_is_item (string_bytes v) (omega (arith, v.bytes.ok.0, v.bytes.ok.1, v.bytes.small))
      (IsUtf8-string_bytes v)

  -- a text of one character
  pub character_is_item : (c : ℕ) → IsScalar c
      → IsOneItem form (encoded (definite_string 3 (encode_utf8 c)))
  character_is_item c h =
      text_is_item (encode_utf8 c) (omega (arith, length-encode c, (len_utf8_bounds c).1))
      (IsUtf8-encode c h)

  pub bytes_are_item : (content : List ℕ) → length content < 2 ^ 64
      → IsOneItem form (encoded (definite_string 2 content))
  bytes_are_item content h = string_is_item byte_string content h tt

  simple_is_item : (s : Simple) → s ≢ simple_undefined → OneItem form (simple_byte s ∷ [])
  simple_is_item s h =
      record { of_tree = simple s; formed = simple_formed form s h; bytes_are = refl }

  pub bool_is_item : (b : Bool) → IsOneItem form (encoded (bool_byte b ∷ []))
  bool_is_item false = simple_is_item simple_false (λ e. cc)
  bool_is_item true = simple_is_item simple_true (λ e. cc)

  pub null_is_item : IsOneItem form (encoded (0xf6 ∷ []))
  null_is_item = simple_is_item simple_null (λ e. cc)

  -- a float, as its bits
  pub float_is_item : (p : Precision) (n : ℕ) → n < 256 ^ precision_bytes p
      → IsOneItem form (encoded (float_bytes (precision_byte p) (precision_bytes p) n))
  float_is_item p n h =
      record { of_tree = bits p n; formed = bits_formed form p n h; bytes_are = refl }

  -- ---- bignums

  pub length-magnitude : (n : ℕ) → length (magnitude n) < 2 ^ 64
  length-magnitude n =
      omega
      (arith, length-without_leading_zeros (bytes_high_first 16 n), length-bytes_high_first 16 n)

  bignum_is_item : (tag n : ℕ) → tag < 2 ^ 64 → OneItem form (bignum_bytes tag n)
  bignum_is_item tag n h =
      let inner = string byte_string (shortest_width (length (magnitude n))) (magnitude n) in
      record {
        of_tree = tagged tag (shortest_width tag) inner;
        formed = tag_formed form tag inner h
            (string_formed form byte_string (magnitude n) (length-magnitude n) tt);
        bytes_are = refl;
      }

  integer_is_item : (s : Sign) (tag n : ℕ) → tag < 2 ^ 64
      → OneItem form (integer_bytes (sign_major s) tag n)
  integer_is_item s tag n h =
      if_cases (OneItem form) (ltb n (2 ^ 64)) _ _ (λ e. head_is_item s n (ltb-true n (2 ^ 64) e))
      (λ e. bignum_is_item tag n h)

  -- an unsigned integer, or the bignum that it is written as
  pub unsigned_bytes_are_item : (n : ℕ) → IsOneItem form (encoded (unsigned_bytes n))
  unsigned_bytes_are_item n = integer_is_item unsigned 2 n (omega arith)

  -- a signed integer, or the bignum that it is written as
  pub signed_bytes_are_item : (v : ℤ) → IsOneItem form (encoded (signed_bytes v))
  signed_bytes_are_item (pos n) = integer_is_item unsigned 2 n (omega arith)
  signed_bytes_are_item (negsuc n) = integer_is_item negative 3 n (omega arith)

-- ---- arrays

-- The bytes are those of so many trees of the form.
record SomeItems (form : Form) (n : ℕ) (encoding : List ℕ) : Type 0 where
  of_tree : Trees
  formed : AreOfForm form of_tree
  many : count of_tree ≡ n
  bytes_are : bytes_all of_tree ≡ encoding

module _ (form : Form) where
  one_more : (n : ℕ) (xs ys : List ℕ) → OneItem form xs → SomeItems form n ys
      → SomeItems form (suc n) (xs ++ ys)
  one_more n xs ys p q = record {
    of_tree = tree p.of_tree q.of_tree;
    formed = more_formed form p.of_tree q.of_tree p.formed q.formed;
    many = ap suc q.many;
    bytes_are = ap₂ (λ us ws. us ++ ws) p.bytes_are q.bytes_are;
  }

  each_is : {V : Type 0} (item : V → Encoding) (vs : List V)
      → AllByRecursion (λ v. IsOneItem form (item v)) vs
      → IfEncoded (each_encoding item vs) (SomeItems form (length vs))
  each_is item [] h =
      record { of_tree = no_trees; formed = none_formed form; many = refl; bytes_are = refl }
  each_is item (v ∷ vs) h =
      if_followed (OneItem form) (SomeItems form (length vs)) (SomeItems form (suc (length vs)))
      (item v) (each_encoding item vs) (one_more (length vs)) h.0 (each_is item vs h.1)

  array_of : (n : ℕ) → n < 2 ^ 64 → (ys : List ℕ) → SomeItems form n ys
      → OneItem form (shortest_head 4 n ++ ys)
  array_of n h ys q = record {
    of_tree = array (shortest_width (count q.of_tree)) q.of_tree;
    formed = array_formed form q.of_tree (omega (arith, h, q.many)) q.formed;
    bytes_are = ap₂ (λ k zs. shortest_head 4 k ++ zs) q.many q.bytes_are;
  }

  -- an array of no item
  pub unit_is_item : IsOneItem form (encoded (shortest_head 4 0))
  unit_is_item = record {
    of_tree = array (shortest_width 0) no_trees;
    formed = array_formed form no_trees (omega arith) (none_formed form);
    bytes_are = refl;
  }

  -- an array of values
  pub array_is_item : {V : Type 0} (item : V → Encoding) (vs : List V) → length vs < 2 ^ 64
      → AllByRecursion (λ v. IsOneItem form (item v)) vs → IsOneItem form (array_encoding item vs)
  array_is_item item vs h p =
      if_headed (SomeItems form (length vs)) (OneItem form) (shortest_head 4 (length vs))
      (each_encoding item vs) (array_of (length vs) h) (each_is item vs p)

  -- an array of so many parts
  pub tuple_is_item : (ps : List Encoding) → length ps < 2 ^ 64 → AllByRecursion (IsOneItem form) ps
      → IsOneItem form (tuple_encoding ps)
  tuple_is_item ps h p = array_is_item (λ part. part) ps h p

-- an array that ends at a break
pub indefinite_array_is_item : {V : Type 0} (item : V → Encoding) (vs : List V)
    → AllByRecursion (λ v. IsOneItem shortest_heads (item v)) vs
    → IsOneItem shortest_heads (collected_encoding 4 None (each_encoding item vs))
indefinite_array_is_item item vs p =
    let Ended : List ℕ → Type 0 = λ zs. OneItem shortest_heads (open_head 4 ++ zs) in
    if_headed Ended (OneItem shortest_heads) (open_head 4)
    (one_then (each_encoding item vs) (encoded break_bytes)) (λ zs q. q)
    (if_followed (SomeItems shortest_heads (length vs)) (λ zs. zs ≡ break_bytes) Ended
    (each_encoding item vs) (encoded break_bytes)
    (λ ys zs q e. record {
      of_tree = array_indefinite q.of_tree;
      formed = q.formed;
      bytes_are = ap₂ (λ us ws. open_head 4 ++ (us ++ ws)) q.bytes_are (sym e);
    }) (each_is shortest_heads item vs p) refl)

-- ---- maps

-- The bytes are those of so many pairs of the form.
record SomePairs (form : Form) (n : ℕ) (encoding : List ℕ) : Type 0 where
  of_tree : Pairs
  formed : ArePairsOfForm form of_tree
  many : pair_count of_tree ≡ n
  bytes_are : bytes_pairs of_tree ≡ encoding

module _ (form : Form) where
  one_entry_more : (n : ℕ) (xs ys : List ℕ) → OnePair form xs → SomePairs form n ys
      → SomePairs form (suc n) (xs ++ ys)
  one_entry_more n xs ys p q = record {
    of_tree = pair p.key p.held q.of_tree;
    formed = more_pairs_formed form p.key p.held q.of_tree p.key_formed p.held_formed q.formed;
    many = ap suc q.many;
    bytes_are = sym (append_assoc (bytes p.key) (bytes p.held) (bytes_pairs q.of_tree))
        ∙ ap₂ (λ us ws. us ++ ws) p.bytes_are q.bytes_are;
  }

  each_is_entry : {V : Type 0} (item : V → Encoding) (vs : List V)
      → AllByRecursion (λ v. IsOnePair form (item v)) vs
      → IfEncoded (each_encoding item vs) (SomePairs form (length vs))
  each_is_entry item [] h =
      record { of_tree = no_pairs; formed = no_pairs_formed form; many = refl; bytes_are = refl }
  each_is_entry item (v ∷ vs) h =
      if_followed (OnePair form) (SomePairs form (length vs))
      (SomePairs form (suc (length vs))) (item v) (each_encoding item vs)
      (one_entry_more (length vs))
      h.0 (each_is_entry item vs h.1)

  map_of_entries : (n : ℕ) → n < 2 ^ 64 → (ys : List ℕ) → SomePairs form n ys
      → OneItem form (shortest_head 5 n ++ ys)
  map_of_entries n h ys q = record {
    of_tree = map_of (shortest_width (pair_count q.of_tree)) q.of_tree;
    formed = map_formed form q.of_tree (omega (arith, h, q.many)) q.formed;
    bytes_are = ap₂ (λ k zs. shortest_head 5 k ++ zs) q.many q.bytes_are;
  }

  -- a map of pairs, whatever writes each
  entries_are_item : {V : Type 0} (item : V → Encoding) (vs : List V) → length vs < 2 ^ 64
      → AllByRecursion (λ v. IsOnePair form (item v)) vs
      → IsOneItem form (one_then (encoded (shortest_head 5 (length vs))) (each_encoding item vs))
  entries_are_item item vs h p =
      if_headed (SomePairs form (length vs)) (OneItem form) (shortest_head 5 (length vs))
      (each_encoding item vs) (map_of_entries (length vs) h) (each_is_entry item vs p)

  -- a key, and its value after it
  pub pair_is_entry : (a b : Encoding) → IsOneItem form a → IsOneItem form b
      → IsOnePair form (one_then a b)
  pair_is_entry a b p q = if_followed (OneItem form) (OneItem form) (OnePair form) a b
      (λ xs ys k v. record {
        key = k.of_tree;
        held = v.of_tree;
        key_formed = k.formed;
        held_formed = v.formed;
        bytes_are = ap₂ (λ us ws. us ++ ws) k.bytes_are v.bytes_are;
      }) p q

  -- a name, and its value after it
  pub field_is_entry : (name : List ℕ) (value : Encoding) → length name < 2 ^ 64 → IsUtf8 name
      → IsOneItem form value → IsOnePair form (field name value)
  field_is_entry name value h utf8 p =
      pair_is_entry (encoded (definite_string 3 name)) value (text_is_item form name h utf8) p

  each_pair_is_entry : {K V : Type 0} (key : K → Encoding) (value : V → Encoding)
      (es : List (K × V))
      → AllByRecursion (λ e. IsOneItem form (key e.0) × IsOneItem form (value e.1)) es
      → AllByRecursion (λ e. IsOnePair form (pair_encoding key value e)) es
  each_pair_is_entry key value [] h = tt
  each_pair_is_entry key value (e ∷ es) h =
      (pair_is_entry (key e.0) (value e.1) h.0.0 h.0.1, each_pair_is_entry key value es h.1)

  -- a map of keys to values
  pub map_is_item : {K V : Type 0} (key : K → Encoding) (value : V → Encoding)
      (entries : List (K × V)) → length entries < 2 ^ 64
      → AllByRecursion (λ e. IsOneItem form (key e.0) × IsOneItem form (value e.1)) entries
      → IsOneItem form (map_encoding key value entries)
  map_is_item key value entries h p =
      entries_are_item (pair_encoding key value) entries h (each_pair_is_entry key value entries p)

  -- a map of so many fields
  pub struct_is_item : (fields : List Encoding) → length fields < 2 ^ 64
      → AllByRecursion (IsOnePair form) fields → IsOneItem form (struct_encoding fields)
  struct_is_item fields h p = entries_are_item (λ part. part) fields h p

-- a map that ends at a break
pub indefinite_map_is_item : {V : Type 0} (entry : V → Encoding) (vs : List V)
    → AllByRecursion (λ v. IsOnePair shortest_heads (entry v)) vs
    → IsOneItem shortest_heads (collected_encoding 5 None (each_encoding entry vs))
indefinite_map_is_item entry vs p =
    let Ended : List ℕ → Type 0 = λ zs. OneItem shortest_heads (open_head 5 ++ zs) in
    if_headed Ended (OneItem shortest_heads) (open_head 5)
    (one_then (each_encoding entry vs) (encoded break_bytes)) (λ zs q. q)
    (if_followed (SomePairs shortest_heads (length vs)) (λ zs. zs ≡ break_bytes) Ended
    (each_encoding entry vs) (encoded break_bytes)
    (λ ys zs q e. record {
      of_tree = map_indefinite q.of_tree;
      formed = q.formed;
      bytes_are = ap₂ (λ us ws. open_head 5 ++ (us ++ ws)) q.bytes_are (sym e);
    }) (each_is_entry shortest_heads entry vs p) refl)

-- one whose length is given is the head and the parts
pub collected_with_length : (major n : ℕ) (inner : Encoding)
    → collected_encoding major (Some n) inner ≡ one_then (encoded (shortest_head major n)) inner
collected_with_length major n inner =
    ap (one_then (encoded (shortest_head major n))) (followed_nil inner)

-- ---- options and variants

variant_is_struct : (name : List ℕ) (content : Encoding)
    → struct_encoding (field name content ∷ []) ≡ variant_encoding name content
variant_is_struct name content =
    ap (one_then (encoded (shortest_head 5 1))) (followed_nil (field name content))
    ∙ sym (followed_both (shortest_head 5 1) (definite_string 3 name) content)

module _ (form : Form) where
  -- null, or the value's item
  pub option_is_item : {V : Type 0} (item : V → Encoding) (v : Option V)
      → ((u : V) → v ≡ Some u → IsOneItem form (item u)) → IsOneItem form (option_encoding item v)
  option_is_item item None p = null_is_item form
  option_is_item item (Some u) p = p u refl

  -- a map of one pair, from the variant's name to its content
  pub variant_is_item : (name : List ℕ) (content : Encoding) → length name < 2 ^ 64 → IsUtf8 name
      → IsOneItem form content → IsOneItem form (variant_encoding name content)
  variant_is_item name content h utf8 p =
      subst (IsOneItem form) (variant_is_struct name content)
      (struct_is_item form (field name content ∷ []) (omega arith)
      (field_is_entry form name content h utf8 p, tt))

  -- one whose content is an array of so many parts
  pub tuple_variant_is_item : (name : List ℕ) (ps : List Encoding) → length name < 2 ^ 64
      → IsUtf8 name → length ps < 2 ^ 64 → AllByRecursion (IsOneItem form) ps
      → IsOneItem form (tuple_variant_encoding name ps)
  tuple_variant_is_item name ps h utf8 few p =
      subst (IsOneItem form)
      (sym (followed_both (variant_head name) (shortest_head 4 (length ps)) (parts ps)))
      (variant_is_item name (tuple_encoding ps) h utf8 (tuple_is_item form ps few p))

  -- one whose content is a map of so many fields
  pub struct_variant_is_item : (name : List ℕ) (fields : List Encoding) → length name < 2 ^ 64
      → IsUtf8 name → length fields < 2 ^ 64 → AllByRecursion (IsOnePair form) fields
      → IsOneItem form (struct_variant_encoding name fields)
  struct_variant_is_item name fields h utf8 few p =
      subst (IsOneItem form)
      (sym (followed_both (variant_head name) (shortest_head 5 (length fields)) (parts fields)))
      (variant_is_item name (struct_encoding fields) h utf8 (struct_is_item form fields few p))
