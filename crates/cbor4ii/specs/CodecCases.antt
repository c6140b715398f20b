-- Enums in one word: how their variants are written and read, and that they are read back.
use Rattle.std.proofs.Common.{◌≡◌, ◌≢◌, ◌+◌, ◌*◌, ◌++◌, ℕ, suc, List, [], ◌∷◌, length, max, Bool}
use Rattle.std.proofs.Common.{true, false, IsTrue, ◌⊎◌, inl, inr, refl, sym, ap, subst, ltb, arith}
use Rattle.std.proofs.Common.{ltb-true, rules}
use Rattle.std.specs.Prelude.{not, bytes_eq}
use Rattle.std.specs.declared.alloc.Global.{Global}
use Rattle.std.proofs.lemmas.List.{append-nil}
use Rattle.cbor4ii_items.specs.Head.{additional, shortest_width}
use Rattle.cbor4ii_items.specs.ReadBack.{ReadsBack}
use Rattle.cbor4ii_items.specs.Sequences.{ReadsPair}
use Rattle.cbor4ii_items.specs.Strings.{ReadsText, definite_string}
use Rattle.cbor4ii_items.specs.Laws.Containers.{both}
use Rattle.cbor4ii_items.specs.Laws.Heads.{additional-lt, shortest_fits}
use Rattle.cbor4ii_items.specs.Laws.LeavesBack.{text_back}
use Rattle.cbor4ii_ser.specs.Item.{Encoding, encoded, rejected, one_then, variant_encoding}
use Rattle.cbor4ii_ser.specs.OneItem.{IsOneItem, canonical}
use Rattle.cbor4ii_ser.specs.Laws.OneItem.{text_is_item, variant_is_item}
use Rattle.cbor4ii.specs.declared.serde.de.cases.Choice.{Choice}
use Rattle.cbor4ii.specs.declared.serde.de.cases.Choice.TheVariants.{First, Other}
use Rattle.cbor4ii.specs.Cases.{Cases, Holding, case, unit_case, held_case, otherwise, ReadsCase}
use Rattle.cbor4ii.specs.Cases.{reads_named, enum_of}
use Rattle.cbor4ii.specs.Codec.{Codec, Facts, no_facts, both_facts, Hold, first_hold, others_hold}
use Rattle.cbor4ii.specs.Codec.{any_value, made_back}
use Rattle.cbor4ii.specs.CodecFields.{is_apart, is_new, is_other}
use Rattle.cbor4ii.specs.CodecFields.{FieldCodecs, values_codec}
use Rattle.cbor4ii.specs.FieldKey.{is_name, is_short_ascii}
use Rattle.cbor4ii.specs.Laws.Backs.{two_back}
use Rattle.cbor4ii.specs.Laws.StructsBack.{no_dearer}
use Rattle.cbor4ii.specs.Made.{made_from}
use Rattle.cbor4ii.specs.ReadBack.{IsReadBack, IsName}
use Rattle.cbor4ii.specs.Stepped.{Stepped}

-- ---- enums

-- the name is one of these
abbrev pub Among : List ℕ → List (List ℕ) → Type 0
Among name [] = ⊥
Among name (other ∷ names) = (name ≡ other) ⊎ Among name names

-- a variant is its name alone, which is one of these, or its name and a content that is read back
pub record VariantBack {V : Type 0} (cases : Cases V) (names : List (List ℕ)) (encoding : Encoding)
    (v : V) (cost : ℕ) : Type 0 where
  pub name : List ℕ
  pub is : IsName name
  pub among : Among name names
  pub back : ((encoding ≡ encoded (definite_string 3 name)) × cases.units name v × (cost ≡ 0))
      ⊎ ((content : Encoding) × (encoding ≡ variant_encoding name content)
      × IsReadBack (cases.contents name) content v cost)

-- the variants of an enum: how they are written and read
pub record CaseCodecs (V : Type 0) : Type 1 where
  pub cases : Cases V
  pub names : List (List ℕ)
  pub encoding : V → Encoding
  pub stands : V → Type 0
  pub cost : V → ℕ
  -- what they stand on
  pub facts : Facts
  pub back : Hold facts → (alloc : Global) (v : V) → stands v
      → VariantBack cases names (encoding v) v (cost v)
  pub one : Hold facts → (v : V) → stands v → IsOneItem canonical (encoding v)

-- no other variant is left: every name is rejected in these words
abbrev pub no_case : {V : Type 0} → List ℕ → CaseCodecs V
no_case words = record {
  cases = otherwise words;
  names = [];
  encoding = λ v. encoded [];
  stands = λ v. ⊥;
  cost = λ v. 0;
  facts = no_facts;
  back = λ hold alloc v h. absurd h;
  one = λ hold v h. absurd h;
}

-- what is made of a value of the first variant, or of another
abbrev pub by_choice {ℓ} : {A B : Type 0} {X : Type ℓ} → (A → X) → (B → X) → Choice A B → X
by_choice first other (First v) = first v
by_choice first other (Other v) = other v

among_apart : (own name : List ℕ) (names : List (List ℕ)) → IsTrue (is_apart own names)
    → Among name names → name ≢ own
among_apart own name [] h among = absurd among
among_apart own name (other ∷ names) h (inl e) = search (rules, is_other)
among_apart own name (other ∷ names) h (inr among) =
    let t = both (not (bytes_eq other own)) (is_apart own names) h in
    among_apart own name names t.1 among

module _ {A B : Type 0} (own : List ℕ) (h : Holding A) (others : CaseCodecs B)
    (new : IsTrue (is_new is_short_ascii own others.names)) where
  other_content : (name : List ℕ) (content : Encoding) (v : B) (cost : ℕ) → name ≢ own
      → IsReadBack (others.cases.contents name) content v cost
      → IsReadBack ((case own h others.cases).contents name) content (Other v) cost
  other_content name (rejected bytes words) v cost apart back = tt
  other_content name (encoded bytes) v cost apart back = λ rest. inr (apart, back rest)

  -- what was written of another variant
  other_is_back : (encoding : Encoding) (v : B) (cost : ℕ)
      → VariantBack others.cases others.names encoding v cost
      → VariantBack (case own h others.cases) (own ∷ others.names) encoding (Other v) cost
  other_is_back encoding v cost b = search (rules, among_apart, inr, inl, other_content)

  own_is_name : IsName own
  own_is_name =
      is_name own (both (is_short_ascii own) (is_apart own others.names) new).0

held_content : {T B : Type 0} (own : List ℕ) (c : Codec T) (cases : Cases B) (content : Encoding)
    (v : T) (cost : ℕ) → IsReadBack c.promise.format.reads content v cost
    → IsReadBack ((case own (held_case c.promise) cases).contents own) content (First v) cost
held_content own c cases (rejected bytes words) v cost back = tt
held_content own c cases (encoded bytes) v cost back = λ rest. inl (refl, back rest)

module _ {T B : Type 0} (own : List ℕ) (c : Codec T) (others : CaseCodecs B)
    (new : IsTrue (is_new is_short_ascii own others.names)) where
  pub held_is_back : Hold (both_facts c.facts others.facts) → (alloc : Global) (v : Choice T B)
      → by_choice c.stands others.stands v
      → VariantBack (case own (held_case c.promise) others.cases) (own ∷ others.names)
      (by_choice (λ w. variant_encoding own (c.encoding w)) others.encoding v) v
      (by_choice c.cost others.cost v)
  held_is_back hold alloc (First v) h = record {
    name = own;
    is = own_is_name own (held_case c.promise) others new;
    among = inl refl;
    back = inr (
      c.encoding v,
      refl,
      held_content own c others.cases (c.encoding v) v (c.cost v)
          (c.back (first_hold c.facts others.facts hold) alloc v h),
    );
  }
  held_is_back hold alloc (Other v) h =
      other_is_back own (held_case c.promise) others new (others.encoding v) v (others.cost v)
      (others.back (others_hold c.facts others.facts hold) alloc v h)

  pub held_is_one : Hold (both_facts c.facts others.facts) → (v : Choice T B)
      → by_choice c.stands others.stands v
      → IsOneItem canonical (by_choice (λ w. variant_encoding own (c.encoding w)) others.encoding v)
  held_is_one hold (First v) h =
      let is = own_is_name own (held_case c.promise) others new in
      variant_is_item canonical own (c.encoding v) (omega (arith, is.1)) is.0
      (c.one (first_hold c.facts others.facts hold) v h)
  held_is_one hold (Other v) h = others.one (others_hold c.facts others.facts hold) v h

  -- a variant that holds a value, and others after it
  abbrev pub variant : CaseCodecs (Choice T B)
  variant = record {
    cases = case own (held_case c.promise) others.cases;
    names = own ∷ others.names;
    encoding = by_choice (λ v. variant_encoding own (c.encoding v)) others.encoding;
    stands = by_choice c.stands others.stands;
    cost = by_choice c.cost others.cost;
    facts = both_facts c.facts others.facts;
    back = held_is_back;
    one = held_is_one;
  }

-- a variant that holds named fields, fewer than 256, and others after it
abbrev pub variant_of_fields : {V W B : Type 0} (own : List ℕ) (p : FieldCodecs V W)
    → IsTrue (ltb (length p.labels) 256) → (others : CaseCodecs B)
    → IsTrue (is_new is_short_ascii own others.names) → CaseCodecs (Choice W B)
variant_of_fields own p few = variant own (values_codec p (ltb-true (length p.labels) 256 few))

module _ {B : Type 0} (own : List ℕ) (others : CaseCodecs B)
    (new : IsTrue (is_new is_short_ascii own others.names)) where
  pub unit_is_back : Hold others.facts → (alloc : Global) (v : Choice (Unit {0}) B)
      → by_choice any_value others.stands v
      → VariantBack (case own unit_case others.cases) (own ∷ others.names)
      (by_choice (λ w. encoded (definite_string 3 own)) others.encoding v) v
      (by_choice (λ w. 0) others.cost v)
  unit_is_back hold alloc (First v) h = record {
    name = own;
    is = own_is_name own unit_case others new;
    among = inl refl;
    back = inl (refl, inl (refl, tt), refl);
  }
  unit_is_back hold alloc (Other v) h =
      other_is_back own unit_case others new (others.encoding v) v (others.cost v)
      (others.back hold alloc v h)

  pub unit_is_one : Hold others.facts → (v : Choice (Unit {0}) B)
      → by_choice any_value others.stands v
      → IsOneItem canonical (by_choice (λ w. encoded (definite_string 3 own)) others.encoding v)
  unit_is_one hold (First v) h =
      let is = own_is_name own unit_case others new in
      text_is_item canonical own (omega (arith, is.1)) is.0
  unit_is_one hold (Other v) h = others.one hold v h

  -- a variant that is its name alone, and others after it
  abbrev pub unit_variant : CaseCodecs (Choice (Unit {0}) B)
  unit_variant = record {
    cases = case own unit_case others.cases;
    names = own ∷ others.names;
    encoding = by_choice (λ v. encoded (definite_string 3 own)) others.encoding;
    stands = by_choice any_value others.stands;
    cost = by_choice (λ v. 0) others.cost;
    facts = others.facts;
    back = unit_is_back;
    one = unit_is_one;
  }

-- ---- a whole variant is read back

next_one : (k : ℕ) → suc k ≡ 1 + k
next_one k = omega arith

module _ {V : Type 0} (cases : Cases V) (name : List ℕ) (v : V) (is : IsName name) where
  name_is_back : ReadsBack ReadsText (definite_string 3 name) name 0
  name_is_back = text_back (λ (text : List ℕ). text) name (omega (arith, is.1)) is.0

  alone_is_back : cases.units name v
      → IsReadBack (Stepped (ReadsCase cases)) (encoded (definite_string 3 name)) v 1
  alone_is_back stands rest =
      let n = length name in
      let first = 32 * 3 + additional (shortest_width n) n in
      let low = additional-lt n (shortest_width n) (shortest_fits n (omega (arith, is.1))) in
      let form : Bool × ℕ = (false, first) in
      let nothing : ReadsBack (reads_named cases form name) [] v 0 = λ ys. (stands, refl, refl) in
      let entry = two_back ReadsText (reads_named cases form name) (definite_string 3 name) []
      (name, v) 0 0 name_is_back nothing in (
        0,
        record {
          form = form;
          size = 0;
          seen = (refl, (omega (arith, low), refl), refl);
          between = length (definite_string 3 name);
          named = (
            name,
            (subst (λ (bytes : List ℕ). ReadsBack (ReadsPair ReadsText
                (reads_named cases form name)) bytes (name, v) 0)
                (append-nil (definite_string 3 name)) entry) rest,
          );
          whole = omega arith;
        },
        refl,
      )

  after_is_back : (content : Encoding) (cost : ℕ)
      → IsReadBack (cases.contents name) content v cost
      → IsReadBack (Stepped (ReadsCase cases)) (variant_encoding name content) v (1 + cost)
  unfolding one_then
  after_is_back (rejected bytes words) cost back = tt
  after_is_back (encoded bytes) cost back = λ rest.
      let form : Bool × ℕ = (true, 0xa1) in
      let entry = two_back ReadsText (reads_named cases form name) (definite_string 3 name) bytes
      (name, v) 0 cost name_is_back back in (
        max 0 cost,
        record {
          form = form;
          size = 1;
          seen = (refl, (refl, refl), refl);
          between = length (definite_string 3 name ++ bytes);
          named = (name, entry rest);
          whole = next_one (length (definite_string 3 name ++ bytes));
        },
        ap (λ k. 1 + k) (sym (no_dearer cost)),
      )

pub case_is_back : {V : Type 0} (cases : Cases V) (names : List (List ℕ))
    (encoding : Encoding) (v : V) (cost : ℕ) → VariantBack cases names encoding v cost
    → IsReadBack (Stepped (ReadsCase cases)) encoding v (1 + cost)
case_is_back cases names encoding v cost b = elim b.back [
  | inl u ↦ rw (u.0, u.2) (alone_is_back cases b.name v b.is u.1)
  | inr k ↦ rw k.1 (after_is_back cases b.name v b.is k.0 cost k.2)
]

-- an enum of these variants; `choice` is the one that a value is of
abbrev pub enum_codec : {R V : Type 0} (choice : R → V) (make : V → R)
    → ((r : R) → r ≡ make (choice r)) → CaseCodecs V → Codec R
enum_codec choice make whole vs = record {
  promise = made_from (λ v r. r ≡ make v) (enum_of vs.cases);
  encoding = λ r. vs.encoding (choice r);
  stands = λ r. vs.stands (choice r);
  cost = λ r. 1 + vs.cost (choice r);
  facts = vs.facts;
  back = λ hold alloc r h. made_back (Stepped (ReadsCase vs.cases)) (λ v r. r ≡ make v)
      (vs.encoding (choice r)) (choice r) r (1 + vs.cost (choice r)) (whole r)
      (case_is_back vs.cases vs.names (vs.encoding (choice r)) (choice r) (vs.cost (choice r))
      (vs.back hold alloc (choice r) h));
  one = λ hold r. vs.one hold (choice r);
}
