-- What stands for a typed value is read back.
use Rattle.std.proofs.Common.{◌≡◌, ◌⊎◌, inl, inr, ℕ, ◌+◌, ◌<◌, ◌≤◌, ◌^◌, List, [], ◌∷◌, ◌++◌}
use Rattle.std.proofs.Common.{length, max, Bool, Some, None, refl, sym, ap, ◌∙◌, subst, arith}
use Rattle.std.proofs.Common.{append_assoc, append-nil, length-append, All, rules}
use Rattle.std.proofs.lemmas.List.Elements.{All-head, All-tail}
use Rattle.std.specs.declared.cmp.Ordering.{Ordering}
use Rattle.std.specs.declared.cmp.Ordering.TheVariants.{Less, Greater}
use Rattle.std.specs.Ordering.{ordering_reverse}
use Rattle.std.specs.Cmp.{IsTotalOrder}
use Rattle.std.specs.BTreeMap.{insert_entry}
use Rattle.std.specs.List.{AllByRecursion}
use Rattle.std.specs.List.Sorted.{IsStrictlySortedBy}
use Rattle.std.specs.Map.{keys_of}
use Rattle.cbor4ii_items.specs.Containers.{BeginsNull, ReadsOption}
use Rattle.cbor4ii_items.specs.Decoding.{Reads}
use Rattle.cbor4ii_items.specs.Numbers.{shortest_head}
use Rattle.cbor4ii_items.specs.ReadBack.{ReadsBack, greatest_part_cost, pair_cost}
use Rattle.cbor4ii_items.specs.Sequences.{ReadsElements, ReadsDefiniteElements, ReadsSequence}
use Rattle.cbor4ii_items.specs.Sequences.{ReadsPair}
use Rattle.cbor4ii_items.specs.Laws.PartsBack.{pair_back, stands_between, head_before}
use Rattle.cbor4ii_ser.specs.Item.{Encoding, encoded, rejected, one_then, each_encoding}
use Rattle.cbor4ii_ser.specs.Item.{pair_encoding}
use Rattle.cbor4ii_ser.specs.Laws.Joining.{followed_nil}
use Rattle.cbor4ii.specs.Built.{built_pairs, put_all, ReadsBuilt}
use Rattle.cbor4ii.specs.ReadBack.{IsReadBack, BeginsOther, IsNullItem}
use Rattle.cbor4ii.specs.Stepped.{Stepped}
use Rattle.cbor4ii.specs.Tuples.{ReadsAfter, ReadsTriple}

-- ---- one value as another

-- each reading of the first is one of the second
pub read_back_by : {V W : Type 0} (first : Reads V) (second : Reads W) (v : V) (w : W)
    → ((xs : List ℕ) (n c : ℕ) → first xs v n c → second xs w n c) → (item : Encoding) (cost : ℕ)
    → IsReadBack first item v cost → IsReadBack second item w cost
read_back_by first second v w also (rejected bytes words) cost back = tt
read_back_by first second v w also (encoded bytes) cost back =
    λ rest. also (bytes ++ rest) (length bytes) cost (back rest)

-- ---- values that may be absent

other_first : (bytes rest : List ℕ) → BeginsOther (encoded bytes) → BeginsNull (bytes ++ rest) → ⊥
other_first bytes rest h (inl e) = let f = h.2 in (let is : h.0 ≡ 0xf6 = cc in h.3 is)
other_first bytes rest h (inr e) = let f = h.2 in (let is : h.0 ≡ 0xf7 = cc in h.4 is)

some_first : (bytes rest : List ℕ) → BeginsOther (encoded bytes) → 1 ≤ length (bytes ++ rest)
some_first bytes rest h = omega (arith, ap length h.2, length-append bytes rest)

pub some_read_back : {V : Type 0} (reads : Reads V) (item : Encoding) (v : V) (cost : ℕ)
    → IsReadBack reads item v cost → BeginsOther item
    → IsReadBack (ReadsOption (Stepped reads)) item (Some v) (1 + cost)
some_read_back reads (rejected bytes words) v cost back other = tt
some_read_back reads (encoded bytes) v cost back other =
    λ rest. (other_first bytes rest other, some_first bytes rest other, (cost, back rest, refl))

null_at : {V : Type 0} (reads : Reads V) (b : ℕ) (item : Encoding) → (b ≡ 0xf6) ⊎ (b ≡ 0xf7)
    → item ≡ encoded (b ∷ []) → IsReadBack (ReadsOption (Stepped reads)) item None 0
null_at reads b item (inl is) e = rw (e, is) (λ rest. (inl refl, refl, refl))
null_at reads b item (inr is) e = rw (e, is) (λ rest. (inr refl, refl, refl))

pub null_read_back : {V : Type 0} (reads : Reads V) (item : Encoding) → IsNullItem item
    → IsReadBack (ReadsOption (Stepped reads)) item None 0
null_read_back reads item (inl e) = null_at reads 0xf6 item (inl refl) e
null_read_back reads item (inr e) = null_at reads 0xf7 item (inr refl) e

-- ---- tuples

after_back : {V : Type 0} (count : ℕ) (reads : Reads V) (bytes : List ℕ) (v : V) (cost : ℕ)
    → count < 2 ^ 64 → ReadsBack reads bytes v cost
    → ReadsBack (Stepped (ReadsAfter count reads)) (shortest_head 4 count ++ bytes) v (1 + cost)
after_back count reads bytes v cost h back rest =
    let start = shortest_head 4 count in
    let parts = subst (λ zs. reads zs v (length bytes) cost)
    (sym (stands_between start bytes rest).left)
    (back rest) in (
      cost,
      record {
        before = length start;
        head = head_before 4 count bytes rest h;
        between = length bytes;
        parts = parts;
        size = length-append start bytes;
      },
      refl,
    )

-- a head that counts so many, and what is read back after it
pub counted_back : {V : Type 0} (count : ℕ) (reads : Reads V) (o : Encoding) (v : V) (cost : ℕ)
    → count < 2 ^ 64 → IsReadBack reads o v cost
    → IsReadBack (Stepped (ReadsAfter count reads)) (one_then (encoded (shortest_head 4 count)) o) v
    (1 + cost)
unfolding one_then
counted_back count reads (rejected bytes words) v cost few h = tt
counted_back count reads (encoded bytes) v cost few h = after_back count reads bytes v cost few h

pub two_back : {A B : Type 0} (first : Reads A) (second : Reads B) (xs ys : List ℕ) (p : A × B)
    (c d : ℕ) → ReadsBack first xs p.0 c → ReadsBack second ys p.1 d
    → ReadsBack (ReadsPair first second) (xs ++ ys) p (max c d)
two_back first second xs ys p c d h k =
    pair_back first second (λ _. xs) (λ _. ys) (λ _. c) (λ _. d) p h k

pub key_value_back : {K V : Type 0} (first : Reads K) (second : Reads V) (a b : Encoding)
    (p : K × V)
    (c d : ℕ) → IsReadBack first a p.0 c → IsReadBack second b p.1 d
    → IsReadBack (ReadsPair first second) (one_then a b) p (max c d)
unfolding one_then
key_value_back first second (encoded xs)
    (encoded ys) p c d h k = two_back first second xs ys p c d h k
key_value_back first second _ _ p c d h k = tt

-- the last part
last_back : {V : Type 0} (reads : Reads V) (o : Encoding) (v : V) (cost : ℕ)
    → IsReadBack reads o v cost → IsReadBack reads (one_then o (encoded [])) v cost
last_back reads o v cost = subst (λ z. IsReadBack reads z v cost) (sym (followed_nil o))

pub pair_read_back : {A B : Type 0} (first : Reads A) (second : Reads B) (a b : Encoding)
    (p : A × B) (c d : ℕ) → IsReadBack first a p.0 c → IsReadBack second b p.1 d
    → IsReadBack (Stepped (ReadsAfter 2 (ReadsPair first second)))
    (one_then (encoded (shortest_head 4 2)) (one_then a (one_then b (encoded [])))) p
    (1 + max c d)
pair_read_back first second a b p c d h k =
    search (rules, counted_back, key_value_back, last_back)

pub triple_read_back : {A B C : Type 0} (first : Reads A) (second : Reads B) (third : Reads C)
    (a b c : Encoding) (p : A × B × C) (i j k : ℕ) → IsReadBack first a p.0 i
    → IsReadBack second b p.1 j → IsReadBack third c p.2 k
    → IsReadBack (Stepped (ReadsAfter 3 (ReadsTriple first second third)))
    (one_then (encoded (shortest_head 4 3)) (one_then a (one_then b (one_then c (encoded [])))))
    p (1 + max i (max j k))
triple_read_back first second third a b c p i j k f g h =
    search (rules, counted_back, read_back_by, key_value_back, last_back)

-- ---- sequences

module _ {P : Type 0} (reads : Reads P) where
  more_back : (p : P) (ps : List P) (xs ys : List ℕ) (c d : ℕ) → ReadsBack reads xs p c
      → ReadsBack (ReadsElements reads) ys ps d
      → ReadsBack (ReadsElements reads) (xs ++ ys) (p ∷ ps) (max c d)
  more_back p ps xs ys c d h k rest =
      let b = stands_between xs ys rest in (
        length xs,
        c,
        length ys,
        d,
        subst (λ zs. reads zs p (length xs) c) (sym b.whole) (h (ys ++ rest)),
        subst (λ zs. ReadsElements reads zs ps (length ys) d) (sym b.left) (k rest),
        length-append xs ys,
        refl,
      )

  pub joined_back : (o q : Encoding) (p : P) (ps : List P) (c d : ℕ) → IsReadBack reads o p c
      → IsReadBack (ReadsElements reads) q ps d
      → IsReadBack (ReadsElements reads) (one_then o q) (p ∷ ps) (max c d)
  unfolding one_then
  joined_back (encoded xs) (encoded ys) p ps c d h k = more_back p ps xs ys c d h k
  joined_back _ _ p ps c d h k = tt

  pub definite_back : (major : ℕ) (never_empty : Bool) (ps : List P) (o : Encoding) (cost : ℕ)
      → length ps < 2 ^ 64 → IsReadBack (ReadsElements reads) o ps cost
      → IsReadBack (ReadsSequence major reads never_empty)
      (one_then (encoded (shortest_head major (length ps))) o) ps (1 + cost)
  unfolding one_then
  definite_back major never_empty ps (rejected bytes words) cost small h = tt
  definite_back major never_empty ps (encoded bytes) cost small h = λ rest. (
      let start = shortest_head major (length ps) in
      let parts = subst (λ zs. ReadsElements reads zs ps (length bytes) cost)
      (sym (stands_between start bytes rest).left) (h rest) in
      let counted : ReadsDefiniteElements major reads ((start ++ bytes) ++ rest) ps
      (length (start ++ bytes)) cost =
      record {
        before = length start;
        head = head_before major (length ps) bytes rest small;
        between = length bytes;
        parts = parts;
        size = length-append start bytes;
      } in
      (cost, inl counted, refl))

module _ {P : Type 0} (reads : Reads P) (item : P → Encoding) (cost : P → ℕ) where
  items_back : (ps : List P) → All (λ p. IsReadBack reads (item p) p (cost p)) ps
      → IsReadBack (ReadsElements reads) (each_encoding item ps) ps (greatest_part_cost cost ps)
  items_back [] h = λ rest. (refl, refl)
  items_back (p ∷ ps) h =
      let Q : P → Type 0 = λ q. IsReadBack reads (item q) q (cost q) in
      joined_back reads (item p) (each_encoding item ps) p ps (cost p) (greatest_part_cost cost ps)
      (All-head Q p ps h) (items_back ps (All-tail Q p ps h))

  pub sequence_read_back : (major : ℕ) (never_empty : Bool) (ps : List P) → length ps < 2 ^ 64
      → All (λ p. IsReadBack reads (item p) p (cost p)) ps
      → IsReadBack (ReadsSequence major reads never_empty)
      (one_then (encoded (shortest_head major (length ps))) (each_encoding item ps)) ps
      (1 + greatest_part_cost cost ps)
  sequence_read_back major never_empty ps small h = search (rules, definite_back, items_back)

-- ---- maps

pub map_pairs_back : {K V : Type 0} (first : Reads K) (second : Reads V) (key : K → Encoding)
    (value : V → Encoding) (key_cost : K → ℕ) (value_cost : V → ℕ) (ps : List (K × V))
    → All (λ p. IsReadBack first (key p.0) p.0 (key_cost p.0)) ps
    → All (λ p. IsReadBack second (value p.1) p.1 (value_cost p.1)) ps
    → All (λ p. IsReadBack (ReadsPair first second)
    (pair_encoding key value p) p (pair_cost key_cost value_cost p)) ps
map_pairs_back first second key value key_cost value_cost ps h k =
    λ i d room. key_value_back first second _ _ _ _ _ (h i d room) (k i d room)

-- ---- the map that its own entries build

module _ {K : Type 0} (cmp : K → K → Ordering) (total : IsTotalOrder cmp) where
  after : (o : Ordering) (k e : K) → cmp k e ≡ o → cmp e k ≡ Less → o ≡ Greater
  after o k e is less = sym is ∙ (total.antisymm k e ∙ ap ordering_reverse less)

module _ {K V : Type 0} (cmp : K → K → Ordering) (total : IsTotalOrder cmp) where
  -- an entry after all others is put at the end
  at_end : (es : List (K × V)) (p : K × V) → AllByRecursion (λ e. cmp e.0 p.0 ≡ Less) es
      → insert_entry cmp es p.0 p.1 ≡ es ++ p ∷ []
  at_end [] p h = refl
  at_end (e ∷ es) p h =
      rw (after cmp total (cmp p.0 e.0) p.0 e.0 refl h.0) (ap (λ zs. e ∷ zs) (at_end es p h.1))

  all_at : (P : K → Type 0) (es ps : List (K × V)) (p : K × V)
      → AllByRecursion P (keys_of (es ++ p ∷ ps)) → P p.0
  all_at P [] ps p h = h.0
  all_at P (e ∷ es) ps p h = all_at P es ps p h.1

  before : (es ps : List (K × V)) (p : K × V) → IsStrictlySortedBy cmp (keys_of (es ++ p ∷ ps))
      → AllByRecursion (λ e. cmp e.0 p.0 ≡ Less) es
  unfolding IsStrictlySortedBy
  before [] ps p h = tt
  before (e ∷ es) ps p h = (all_at (λ y. cmp e.0 y ≡ Less) es ps p h.0, before es ps p h.1)

  put_again : (es ps : List (K × V)) → IsStrictlySortedBy cmp (keys_of (es ++ ps))
      → put_all cmp es ps ≡ es ++ ps
  put_again es [] h = sym (append-nil es)
  put_again es (p ∷ ps) h =
      ap (λ zs. put_all cmp zs ps) (at_end es p (before es ps p h))
      ∙ (put_again (es ++ p ∷ []) ps (subst (λ zs. IsStrictlySortedBy cmp (keys_of zs))
      (sym (append_assoc es (p ∷ []) ps)) h) ∙ append_assoc es (p ∷ []) ps)

  pub built_again : (es : List (K × V)) → IsStrictlySortedBy cmp (keys_of es) → built_pairs cmp es
      ≡ es
  built_again es h = put_again [] es h

pub map_read_back : {K V M : Type 0} (entries : M → List (K × V)) (cmp : K → K → Ordering)
    (reads : Reads (List (K × V))) (o : Encoding) (m : M) (cost : ℕ)
    → built_pairs cmp (entries m) ≡ entries m → IsReadBack reads o (entries m) cost
    → IsReadBack (ReadsBuilt entries cmp reads) o m cost
map_read_back entries cmp reads o m cost e h = search (rules, read_back_by)
