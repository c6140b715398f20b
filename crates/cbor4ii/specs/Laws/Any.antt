-- One input is read as one value, however deep items nest.
use Rattle.std.proofs.Common.{◌≡◌, ℕ, zero, suc, ◌+◌, ◌≤◌, inl, inr, List, [], ◌∷◌, take, drop}
use Rattle.std.proofs.Common.{true, refl, sym, ap, ap₂, ◌∙◌, subst, arith, rules}
use Rattle.std.specs.Prelude.{codes}
use Rattle.std.specs.declared.alloc.Global.{Global}
use Rattle.std.specs.declared.vec.Vec.{Vec}
use Rattle.cbor4ii_items.specs.Decoding.{Reads}
use Rattle.cbor4ii_items.specs.Floats.{ReadsFloat, float_format, float_lawful}
use Rattle.cbor4ii_items.specs.Laws.Formats.{lawful_by}
use Rattle.cbor4ii_items.specs.Laws.Bignums.{u128_one, u128_within, u128_positive, i128_one}
use Rattle.cbor4ii_items.specs.Laws.Bignums.{i128_within, i128_positive}
use Rattle.cbor4ii_items.specs.Sequences.{ReadsElements, Unbroken, ReadsInside, ReadsSequence}
use Rattle.cbor4ii_items.specs.Sequences.{ReadsPair, SamePair, SameElements}
use Rattle.cbor4ii_items.specs.Simple.{simple_lawful, bool_lawful}
use Rattle.cbor4ii_items.specs.Laws.Strings.{two_small, as_lawful, text_lawful}
use Rattle.cbor4ii_items.specs.Strings.{bytes_content, text_content}
use Rattle.cbor4ii_tree.specs.Basis.Item.{item}
use Rattle.cbor4ii_tree.specs.Basis.View.{view, items_view, pairs_view}
use Rattle.cbor4ii_tree.specs.declared.value.Value.{Value, the_lemmas}
use Rattle.cbor4ii.specs.declared.serde.de.any_leaf.AnyKind.{AnyKind}
use Rattle.cbor4ii.specs.declared.serde.de.any_leaf.AnyKind.TheVariants.{Leaf, Array, Map, Other}
use Rattle.cbor4ii.specs.declared.serde.de.any_leaf.AnyLeaf.{AnyLeaf}
use Rattle.cbor4ii.specs.declared.serde.de.any_leaf.AnyLeaf.TheVariants.{Integer, Bignum, Bytes}
use Rattle.cbor4ii.specs.declared.serde.de.any_leaf.AnyLeaf.TheVariants.{Text, Bool as Flag, Null}
use Rattle.cbor4ii.specs.declared.serde.de.any_leaf.AnyLeaf.TheVariants.{F16, F32, F64}
use Rattle.cbor4ii.specs.Any.{kind, Formed, of_bignum, of_bytes, of_text, of_bool}
use Rattle.cbor4ii.specs.Any.{of_array, of_map, LeafAs}
use Rattle.cbor4ii.specs.Any.{ReadsValues, ReadsPairs, KindAs, AnyInside, AnyAt, ReadsAny, SameView}
use Rattle.cbor4ii.specs.CodecAgrees.{AlsoReads, elements_also, unbroken_also, sequence_also}
use Rattle.cbor4ii.specs.CodecAgrees.{pair_also}
use Rattle.cbor4ii.specs.Sequence.{four_small, five_small, sequence_of_lawful}
use Rattle.cbor4ii.specs.Stepped.{Stepped, stepped_laws}
use Rattle.cbor4ii.specs.Tuples.{pair_laws}
use Rattle.cbor4ii.specs.Typed.{IsLawfulReading, reading_format, laws_of, not_exact}

-- ---- equal contents, equal values

view_bytes : (b c : _) → bytes_content b ≡ bytes_content c → SameView (of_bytes b) (of_bytes c)
view_bytes b c e = search (rules, the_lemmas)

view_text : (s t : _) → text_content s ≡ text_content t → SameView (of_text s) (of_text t)
view_text s t e = search (rules, the_lemmas)

items_same : (vs ws : List Value) → SameElements SameView vs ws → items_view vs ≡ items_view ws
items_same [] [] h = refl
items_same (v ∷ vs) (w ∷ ws) h = ap₂ item h.0 (items_same vs ws h.1)
items_same _ _ h = absurd h

pairs_same : (ps qs : List (Value × Value)) → SameElements (SamePair SameView SameView) ps qs
    → pairs_view ps ≡ pairs_view qs
pairs_same [] [] h = refl
pairs_same (p ∷ ps) (q ∷ qs) h = cc (h.0.0, h.0.1, pairs_same ps qs h.1)
pairs_same _ _ h = absurd h

view_array : (vs ws : Vec Value Global) → items_view vs.items ≡ items_view ws.items
    → SameView (of_array vs) (of_array ws)
view_array vs ws e = search (rules, the_lemmas)

view_map : (ps qs : Vec (Value × Value) Global) → pairs_view ps.items ≡ pairs_view qs.items
    → SameView (of_map ps) (of_map qs)
view_map ps qs e = search (rules, the_lemmas)

-- ---- items that hold no other

formed_laws : {W : Type 0} {reads : Reads W} {same : W → W → Type 0} (form : W → Value)
    → ((v w : W) → same v w → SameView (form v) (form w)) → IsLawfulReading reads same true
    → IsLawfulReading (Formed reads form) SameView true
formed_laws form alike h = record {
  one = λ xs v w n m c d p q. (
      let e = h.one xs p.0 q.0 n m c d p.1 q.1 in
      (e.0, e.1, ap view p.2 ∙ alike p.0 q.0 e.2 ∙ ap view (sym q.2)));
  within = λ xs v n c p. h.within xs p.0 n c p.1;
  positive = λ e xs v n c p. h.positive e xs p.0 n c p.1;
  alone = not_exact;
}

formed_by : {W : Type 0} {reads : Reads W} (form : W → Value) → IsLawfulReading reads (λ v w. v ≡ w)
    true
    → IsLawfulReading (Formed reads form) SameView true
formed_by form h = formed_laws form (λ v w e. ap (λ z. view (form z)) e) h

float_laws : {V : Type 0} (bits : V → ℕ) (marker count : ℕ)
    → IsLawfulReading (λ xs v. ReadsFloat marker count xs (bits v)) (λ v w. bits v ≡ bits w) true
float_laws bits marker count =
    laws_of (lawful_by bits (float_format [] marker count) (float_lawful [] marker count))

leaf_laws : (leaf : AnyLeaf) → IsLawfulReading (LeafAs leaf) SameView true
leaf_laws Integer = search (rules, formed_by, i128_one, i128_within, i128_positive, not_exact)
leaf_laws Bignum =
    formed_by of_bignum (record {
      one = λ xs v w n m c d p q. u128_one xs v w n m c d p.0 q.0;
      within = λ xs v n c p. u128_within xs v n c p.0;
      positive = λ _ xs v n c p. u128_positive xs v n c p.0;
      alone = not_exact;
    })
leaf_laws Bytes =
    formed_laws of_bytes view_bytes (laws_of (as_lawful (codes "bytes") 2 two_small bytes_content))
leaf_laws Text = formed_laws of_text view_text (laws_of (text_lawful (codes "str") text_content))
leaf_laws Flag = formed_by of_bool (laws_of bool_lawful)
leaf_laws Null = search (rules, formed_laws, laws_of, simple_lawful)
leaf_laws F16 = search (rules, formed_laws, float_laws)
leaf_laws F32 = search (rules, formed_laws, float_laws)
leaf_laws F64 = search (rules, formed_laws, float_laws)

-- ---- items that hold others

module _ {inner : Reads Value} (h : IsLawfulReading inner SameView true) where
  kind_laws : (k : AnyKind) → IsLawfulReading (KindAs inner k) SameView true
  kind_laws (Leaf leaf) = leaf_laws leaf
  kind_laws Array =
      formed_laws {reads = ReadsValues inner} of_array
      (λ vs ws e. view_array vs ws (items_same vs.items ws.items e))
      (laws_of (sequence_of_lawful (λ (vs : Vec Value Global). vs.items) [] [] 4 four_small
      (reading_format inner SameView true) h))
  kind_laws Map =
      formed_laws {reads = ReadsPairs inner} of_map
      (λ ps qs e. view_map ps qs (pairs_same ps.items qs.items e))
      (laws_of (sequence_of_lawful (λ (ps : Vec (Value × Value) Global). ps.items) [] [] 5
      five_small (reading_format (ReadsPair inner inner) (SamePair SameView SameView) true)
      (pair_laws inner inner SameView SameView true true h h)))
  kind_laws Other = search (rules, not_exact)

  -- the first byte is one
  same_kind : (xs : List ℕ) (v : Value) (n c b d : ℕ) → take 1 xs ≡ b ∷ [] → take 1 xs ≡ d ∷ []
      → KindAs inner (kind b) xs v n c → KindAs inner (kind d) xs v n c
  same_kind xs v n c b d e f r =
      let is : b ≡ d = cc in subst (λ z. KindAs inner (kind z) xs v n c) is r

  inside_laws : IsLawfulReading (AnyInside inner) SameView true
  inside_laws = record {
    one = λ xs v w n m c d p q.
        (kind_laws (kind q.0)).one xs v w n m c d (same_kind xs v n c p.0 q.0 p.1 q.1 p.2) q.2;
    within = λ xs v n c p. (kind_laws (kind p.0)).within xs v n c p.2;
    positive = λ e xs v n c p. (kind_laws (kind p.0)).positive e xs v n c p.2;
    alone = not_exact;
  }

at_laws : (k : ℕ) → IsLawfulReading (AnyAt k) SameView true
at_laws zero = search (rules, not_exact)
at_laws (suc k) = stepped_laws (inside_laws (at_laws k))

-- ---- more is read where more of the parts is

kind_more : {f g : Reads Value} → AlsoReads f g → (k : AnyKind)
    → AlsoReads (KindAs f k) (KindAs g k)
kind_more more Array xs v n c h = (h.0, sequence_also more 4 xs h.0.items n c h.1, h.2)
kind_more more Map xs v n c h =
    (h.0, sequence_also (pair_also more more) 5 xs h.0.items n c h.1, h.2)
kind_more more _ xs v n c h = h

any_more : {f g : Reads Value} → AlsoReads f g → AlsoReads (AnyInside f) (AnyInside g)
any_more more xs v n c h = (h.0, h.1, kind_more more (kind h.0) xs v n c h.2)

-- where items may nest deeper
deeper : (k j : ℕ) → k ≤ j → AlsoReads (AnyAt k) (AnyAt j)
deeper zero j le xs v n c h = absurd h
deeper (suc k) zero le xs v n c h = absurd (omega arith)
deeper (suc k) (suc j) le xs v n c h =
    (h.0, any_more (deeper k j (omega arith)) xs v n h.0 h.1, h.2)

pub any_laws : IsLawfulReading ReadsAny SameView true
any_laws = record {
  one = λ xs v w n m c d p q.
      (at_laws (p.0 + q.0)).one xs v w n m c d (deeper p.0 (p.0 + q.0) (omega arith) xs v n c p.1)
      (deeper q.0 (p.0 + q.0) (omega arith) xs w m d q.1);
  within = λ xs v n c p. (at_laws p.0).within xs v n c p.1;
  positive = λ e xs v n c p. (at_laws p.0).positive e xs v n c p.1;
  alone = not_exact;
}

-- ---- parts that nest, each so deep, nest no deeper than some depth

module _ {P : Type 0} (reads : Reads P) (to : ℕ → Reads P)
    (more : (k j : ℕ) → k ≤ j → AlsoReads (to k) (to j)) where
  abbrev Bounded : Type 0
  Bounded = (xs : List ℕ) (p : P) (n c : ℕ) → reads xs p n c → (k : ℕ) × to k xs p n c

  parts_in : Bounded → (xs : List ℕ) (ps : List P) (n c : ℕ) → ReadsElements reads xs ps n c
      → (k : ℕ) × ReadsElements (to k) xs ps n c
  parts_in bound xs [] n c h = (0, h)
  parts_in bound xs (p ∷ ps) n c h =
      let s = bound xs p h.0 h.1 h.4 in
      let r = parts_in bound (drop h.0 xs) ps h.2 h.3 h.5 in
      let k = s.0 + r.0 in (
        k,
        (
          h.0,
          h.1,
          h.2,
          h.3,
          more s.0 k (omega arith) xs p h.0 h.1 s.1,
          elements_also (more r.0 k (omega arith)) (drop h.0 xs) ps h.2 h.3 r.1,
          h.6,
          h.7,
        ),
      )

module _ {P : Type 0} (reads : Reads P) (to : ℕ → Reads P)
    (more : (k j : ℕ) → k ≤ j → AlsoReads (to k) (to j))
    (bound : (xs : List ℕ) (p : P) (n c : ℕ) → reads xs p n c → (k : ℕ) × to k xs p n c) where
  unbroken_in : (xs : List ℕ) (p : P) (n c : ℕ) → Unbroken reads xs p n c
      → (k : ℕ) × Unbroken (to k) xs p n c
  unbroken_in xs p n c h = let s = bound xs p n c h.1 in (s.0, (h.0, s.1))

  inside_in : (major : ℕ) (xs : List ℕ) (ps : List P) (n c : ℕ)
      → ReadsInside major reads true xs ps n c → (k : ℕ) × ReadsInside major (to k) true xs ps n c
  inside_in major xs ps n c (inl h) =
      let s = parts_in reads to more bound (drop h.before xs) ps h.between c h.parts in (
        s.0,
        inl (record {
          before = h.before;
          head = h.head;
          between = h.between;
          parts = s.1;
          size = h.size;
        }),
      )
  inside_in major xs ps n c (inr h) =
      let u = h.parts in
      let s = parts_in (Unbroken reads) (λ k. Unbroken (to k))
      (λ k j le. unbroken_also (more k j le)) unbroken_in (drop 1 xs) ps u.between c u.parts in (
        s.0,
        inr (record {
          begins = h.begins;
          between = h.between;
          parts = record {
            allowed = u.allowed;
            between = u.between;
            parts = s.1;
            ends = u.ends;
            size = u.size;
          };
          size = h.size;
        }),
      )

  sequence_in : (major : ℕ) (xs : List ℕ) (ps : List P) (n c : ℕ)
      → ReadsSequence major reads true xs ps n c
      → (k : ℕ) × ReadsSequence major (to k) true xs ps n c
  sequence_in major xs ps n c h = let s = inside_in major xs ps n h.0 h.1 in (s.0, (h.0, s.1, h.2))

pair_in : (xs : List ℕ) (p : Value × Value) (n c : ℕ) → ReadsPair ReadsAny ReadsAny xs p n c
    → (k : ℕ) × ReadsPair (AnyAt k) (AnyAt k) xs p n c
pair_in xs p n c h =
    let k = h.key.0 + h.value.0 in (
      k,
      record {
        key_size = h.key_size;
        key_cost = h.key_cost;
        key = deeper h.key.0 k (omega arith) xs p.0 h.key_size h.key_cost h.key.1;
        value_size = h.value_size;
        value_cost = h.value_cost;
        value =
            deeper h.value.0 k (omega arith)
            (drop h.key_size xs) p.1 h.value_size h.value_cost h.value.1;
        size = h.size;
        cost = h.cost;
      },
    )

kind_in : (k : AnyKind) (xs : List ℕ) (v : Value) (n c : ℕ) → KindAs ReadsAny k xs v n c
    → (j : ℕ) × KindAs (AnyAt j) k xs v n c
kind_in (Leaf leaf) xs v n c h = (0, h)
kind_in Array xs v n c h =
    let s = sequence_in ReadsAny AnyAt deeper (λ xs v n c r. r) 4 xs h.0.items n c h.1 in
    (s.0, (h.0, s.1, h.2))
kind_in Map xs v n c h =
    let s = sequence_in (ReadsPair ReadsAny ReadsAny) (λ k. ReadsPair (AnyAt k) (AnyAt k))
    (λ k j le. pair_also (deeper k j le) (deeper k j le)) pair_in 5 xs h.0.items n c h.1 in
    (s.0, (h.0, s.1, h.2))
kind_in Other xs v n c h = absurd h

-- a value under its step is any value
pub any_of_inside : (xs : List ℕ) (v : Value) (n c : ℕ) → Stepped (AnyInside ReadsAny) xs v n c
    → ReadsAny xs v n c
any_of_inside xs v n c h =
    let s = kind_in (kind h.1.0) xs v n h.0 h.1.2 in (suc s.0, (h.0, (h.1.0, h.1.1, s.1), h.2))

inside_at : (k : ℕ) (xs : List ℕ) (v : Value) (n c : ℕ) → AnyAt k xs v n c
    → Stepped (AnyInside ReadsAny) xs v n c
inside_at zero xs v n c h = absurd h
inside_at (suc k) xs v n c h = (h.0, any_more (λ ys w m d r. (k, r)) xs v n h.0 h.1, h.2)

pub inside_of_any : (xs : List ℕ) (v : Value) (n c : ℕ) → ReadsAny xs v n c
    → Stepped (AnyInside ReadsAny) xs v n c
inside_of_any xs v n c h = inside_at h.0 xs v n c h.1
