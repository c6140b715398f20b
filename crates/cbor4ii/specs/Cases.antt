-- What an enum that is read in one call promises, by what its variants hold.
use Rattle.std.proofs.Common.{◌≡◌, ◌≢◌, ◌⊎◌, inl, inr, ℕ, List, [], ◌∷◌, drop, length, ◌≤◌}
use Rattle.std.proofs.Common.{Option, Result, Bool, true, false, IsTrue, refl, sym, subst, ap}
use Rattle.std.proofs.Common.{◌∙◌, ◌+◌, arith}
use Rattle.std.proofs.lemmas.List.{length-drop}
use Rattle.std.specs.Prelude.{◌&&◌, codes}
use denote.Ref.{Bor}
use Rattle.cbor4ii_items.specs.Decoding.{Reads, RejectsAt, Format, IsLawful}
use Rattle.cbor4ii_items.specs.Laws.Containers.{both}
use Rattle.cbor4ii_items.specs.Laws.Sequences.{one_byte}
use Rattle.cbor4ii_items.specs.InputError.{InputError, mismatch}
use Rattle.cbor4ii.specs.declared.serde.de.cases.Choice.{Choice}
use Rattle.cbor4ii.specs.declared.serde.de.cases.Choice.TheVariants.{First, Other}
use Rattle.cbor4ii.specs.FieldKey.{text_key}
use Rattle.cbor4ii.specs.Fields.{ReadsByKey, RejectsByKey, RejectsNamed, keyed_pair_laws}
use Rattle.cbor4ii.specs.Fields.{named_part}
use Rattle.cbor4ii.specs.Fields.{keyed_pair}
use Rattle.cbor4ii.specs.Presence.{made_struct}
use Rattle.cbor4ii.specs.Stepped.{stepped_format, stepped_lawful}
use Rattle.cbor4ii.specs.Structs.{Fields}
use Rattle.cbor4ii.specs.Typed.{Promise, IsLawfulReading, format_of, lawful_as, typed_laws}
use Rattle.cbor4ii.specs.Typed.{rejects_as_promised}
use Rattle.cbor4ii.specs.Typed.{any_two, in_words, not_exact}
use Rattle.cbor4ii.specs.TypedParts.{container}
use Rattle.cbor4ii.specs.Variants.{ReadsForm, RejectsForm, RejectsContent}

-- ---- one variant

-- what a variant holds, as a value of this type
pub record Holding (V : Type 0) : Type 1 where
  -- its name alone stands for the value
  pub unit : V → Type 0
  -- the content that stands for it
  pub content : Reads V
  -- how it is rejected after its name, by the form of the variant: where acceptance is exact, and
  -- over any reader
  pub rejects : Bool × ℕ → RejectsAt
  pub begins : Bool × ℕ → RejectsAt
  pub same : V → V → Type 0
  pub owned : Bool
  pub exact : Bool
  pub unit_one : (v w : V) → unit v → unit w → same v w
  pub lawful : IsTrue exact → IsLawfulReading content same false

-- what is read after a variant's name, by the form: nothing, or a content
abbrev pub reads_by : {V : Type 0} → Bool × ℕ → (V → Type 0) → Reads V → Reads V
reads_by form unit content xs v n c = elim form.0 [
  | true ↦ content xs v n c
  | false ↦ unit v × (n ≡ 0) × (c ≡ 0)
]

abbrev pub holding_format : {V : Type 0} → Holding V → Bool × ℕ → Format V
holding_format h form = named_part (λ name. reads_by form h.unit h.content)
    (λ name. h.rejects form) (λ name. h.begins form) h.same h.owned []

-- a content that no variant has
abbrev pub no_content : {V : Type 0} → Reads V
no_content xs v n c = ⊥

pub no_content_laws : {V : Type 0} (same : V → V → Type 0) → IsLawfulReading (no_content {V = V})
    same false
no_content_laws same = record {
  one = λ xs v w n m c d p q. absurd p;
  within = λ xs v n c p. absurd p;
  positive = not_exact;
  alone = not_exact;
}

-- a variant of its name alone has a content: its first byte is rejected, and nothing is taken
abbrev pub RejectsUnitCase : Bool × ℕ → RejectsAt
RejectsUnitCase form xs budget err rest =
    IsTrue form.0 × (err ≡ mismatch (codes "enum") form.1) × (rest ≡ xs)

-- a variant that is its name alone
abbrev pub unit_case : Holding (Unit {0})
unit_case = record {
  unit = λ v. Unit {0};
  content = no_content;
  rejects = RejectsUnitCase;
  begins = RejectsUnitCase;
  same = any_two;
  owned = true;
  exact = true;
  unit_one = λ v w p q. tt;
  lawful = λ is. no_content_laws any_two;
}

pub some_laws : {V : Type 0} {reads : Reads V} {same : V → V → Type 0} → IsLawfulReading reads same
    true
    → IsLawfulReading reads same false
some_laws h = record { one = h.one; within = h.within; positive = not_exact; alone = not_exact }

-- a variant that holds a value of this type
abbrev pub held_case : {V : Type 0} → Promise V → Holding V
held_case p = record {
  unit = λ v. ⊥;
  content = p.format.reads;
  rejects = λ form. RejectsContent form p.format.rejects;
  begins = λ form. RejectsContent form (rejects_as_promised p);
  same = p.format.same;
  owned = p.format.owned;
  exact = p.exact;
  unit_one = λ v w q r. absurd q;
  lawful = λ is. some_laws (typed_laws p is);
}

-- a variant that holds named fields, of whose values this becomes
abbrev pub fields_case : {V W : Type 0} → Fields V → (V → Result W (List ℕ)) → Holding W
fields_case fields value = held_case (made_struct text_key fields value)

-- ---- all variants

-- the variants of an enum, by their names
pub record Cases (V : Type 0) : Type 1 where
  pub units : List ℕ → V → Type 0
  pub contents : List ℕ → Reads V
  pub rejects : List ℕ → Bool × ℕ → RejectsAt
  pub begins : List ℕ → Bool × ℕ → RejectsAt
  pub same : V → V → Type 0
  pub owned : Bool
  pub exact : Bool
  pub unit_one : (name : List ℕ) (v w : V) → units name v → units name w → same v w
  pub laws : IsTrue exact → (name : List ℕ) → IsLawfulReading (contents name) same false

-- what is read after each variant's name, by the form
abbrev pub reads_named : {V : Type 0} → Cases V → Bool × ℕ → List ℕ → Reads V
reads_named cases form name = reads_by form (cases.units name) (cases.contents name)

abbrev pub rejects_named : {V : Type 0} → Cases V → Bool × ℕ → RejectsNamed
rejects_named cases form name = cases.rejects name form

-- how what follows a variant's name is rejected over any reader
abbrev pub begins_named : {V : Type 0} → Cases V → Bool × ℕ → RejectsNamed
begins_named cases form name = cases.begins name form

abbrev pub case_format : {V : Type 0} → Cases V → Bool × ℕ → List ℕ → Format V
case_format cases form =
    named_part (reads_named cases form) (rejects_named cases form) (begins_named cases form)
    cases.same cases.owned

-- every name is rejected in these words, and what follows it stays
abbrev pub other_rejects : List ℕ → RejectsAt
other_rejects words xs budget err rest = (err ≡ in_words words) × (rest ≡ xs)

-- no variant is left: every name is rejected in these words
abbrev pub otherwise : {V : Type 0} → List ℕ → Cases V
otherwise words = record {
  units = λ name v. ⊥;
  contents = λ name. no_content;
  rejects = λ name form. other_rejects words;
  begins = λ name form. other_rejects words;
  same = any_two;
  owned = true;
  exact = true;
  unit_one = λ name v w p q. tt;
  laws = λ is name. no_content_laws any_two;
}

-- the value is of the first variant, and such
abbrev pub FirstAnd : {A B : Type 0} → (A → Type 0) → Choice A B → Type 0
FirstAnd P (First v) = P v
FirstAnd P (Other v) = ⊥

-- the value is of another variant than the first, and such
abbrev pub OtherAnd : {A B : Type 0} → (B → Type 0) → Choice A B → Type 0
OtherAnd P (First v) = ⊥
OtherAnd P (Other v) = P v

abbrev pub SameChoice : {A B : Type 0} → (A → A → Type 0) → (B → B → Type 0) → Choice A B
    → Choice A B → Type 0
SameChoice same others (First v) (First w) = same v w
SameChoice same others (First v) (Other w) = ⊥
SameChoice same others (Other v) (First w) = ⊥
SameChoice same others (Other v) (Other w) = others v w

pub first_one : {A B : Type 0} (P Q : A → Type 0) (same : A → A → Type 0) (others : B → B → Type 0)
    → ((v w : A) → P v → Q w → same v w) → (v w : Choice A B) → FirstAnd P v → FirstAnd Q w
    → SameChoice same others v w
first_one P Q same others one (First v) (First w) p q = one v w p q
first_one P Q same others one (First v) (Other w) p q = absurd q
first_one P Q same others one (Other v) w p q = absurd p

pub other_one : {A B : Type 0} (P Q : B → Type 0) (same : A → A → Type 0) (others : B → B → Type 0)
    → ((v w : B) → P v → Q w → others v w) → (v w : Choice A B) → OtherAnd P v → OtherAnd Q w
    → SameChoice same others v w
other_one P Q same others one (Other v) (Other w) p q = one v w p q
other_one P Q same others one (Other v) (First w) p q = absurd q
other_one P Q same others one (First v) w p q = absurd p

pub first_all : {A B : Type 0} {P : A → Type 0} {R : Type 0} → ((v : A) → P v → R)
    → (v : Choice A B) → FirstAnd P v → R
first_all all (First v) p = all v p
first_all all (Other v) p = absurd p

pub other_all : {A B : Type 0} {P : B → Type 0} {R : Type 0} → ((v : B) → P v → R)
    → (v : Choice A B) → OtherAnd P v → R
other_all all (First v) p = absurd p
other_all all (Other v) p = all v p

-- where the name is this one the first holds, and after any other the second
abbrev pub ByName : List ℕ → List ℕ → Type 0 → Type 0 → Type 0
ByName own name P Q = ((name ≡ own) × P) ⊎ ((name ≢ own) × Q)

module _ {A B : Type 0} (own : List ℕ) (h : Holding A) (others : Cases B) where
  pub contents_one : IsTrue (h.exact && others.exact) → (name xs : List ℕ) (v w : Choice A B)
      (n m c d : ℕ)
      → ByName own name (FirstAnd (λ a. h.content xs a n c) v)
      (OtherAnd (λ b. others.contents name xs b n c) v)
      → ByName own name (FirstAnd (λ a. h.content xs a m d) w)
      (OtherAnd (λ b. others.contents name xs b m d) w)
      → (n ≡ m) × (c ≡ d) × SameChoice h.same others.same v w
  contents_one is name xs (First v) (First w) n m c d (inl p) (inl q) =
      (h.lawful (both h.exact others.exact is).0).one xs v w n m c d p.1 q.1
  contents_one is name xs (First v) (Other w) n m c d (inl p) (inl q) = absurd q.1
  contents_one is name xs (Other v) w n m c d (inl p) (inl q) = absurd p.1
  contents_one is name xs v w n m c d (inl p) (inr q) = absurd (q.0 p.0)
  contents_one is name xs v w n m c d (inr p) (inl q) = absurd (p.0 q.0)
  contents_one is name xs (Other v) (Other w) n m c d (inr p) (inr q) =
      (others.laws (both h.exact others.exact is).1 name).one xs v w n m c d p.1 q.1
  contents_one is name xs (Other v) (First w) n m c d (inr p) (inr q) = absurd q.1
  contents_one is name xs (First v) w n m c d (inr p) (inr q) = absurd p.1

  pub contents_within : IsTrue (h.exact && others.exact) → (name xs : List ℕ) (v : Choice A B)
      (n c : ℕ) → ByName own name (FirstAnd (λ a. h.content xs a n c) v)
      (OtherAnd (λ b. others.contents name xs b n c) v) → n ≤ length xs
  contents_within is name xs v n c (inl p) =
      first_all (λ a q. (h.lawful (both h.exact others.exact is).0).within xs a n c q) v p.1
  contents_within is name xs v n c (inr p) =
      other_all (λ b q. (others.laws (both h.exact others.exact is).1 name).within xs b n c q) v p.1

  pub units_one : (name : List ℕ) (v w : Choice A B)
      → ByName own name (FirstAnd h.unit v) (OtherAnd (others.units name) v)
      → ByName own name (FirstAnd h.unit w) (OtherAnd (others.units name) w)
      → SameChoice h.same others.same v w
  units_one name v w (inl p) (inl q) =
      first_one h.unit h.unit h.same others.same h.unit_one v w p.1 q.1
  units_one name v w (inl p) (inr q) = absurd (q.0 p.0)
  units_one name v w (inr p) (inl q) = absurd (p.0 q.0)
  units_one name v w (inr p) (inr q) =
      other_one (others.units name) (others.units name) h.same others.same (others.unit_one name) v
      w p.1 q.1

  -- a variant of this name, and others after it
  abbrev pub case : Cases (Choice A B)
  case = record {
    units = λ name v. ByName own name (FirstAnd h.unit v) (OtherAnd (others.units name) v);
    contents = λ name xs v n c. ByName own name (FirstAnd (λ a. h.content xs a n c) v)
        (OtherAnd (λ b. others.contents name xs b n c) v);
    rejects = λ name form xs budget err rest. ByName own name
        (h.rejects form xs budget err rest) (others.rejects name form xs budget err rest);
    begins = λ name form xs budget err rest. ByName own name
        (h.begins form xs budget err rest) (others.begins name form xs budget err rest);
    same = SameChoice h.same others.same;
    owned = h.owned && others.owned;
    exact = h.exact && others.exact;
    unit_one = units_one;
    laws = λ is name. record {
      one = contents_one is name;
      within = contents_within is name;
      positive = not_exact;
      alone = not_exact;
    };
  }

module _ {A B : Type 0} (h : Holding A) (others : Cases B) where
  pub lifted_one : IsTrue (h.exact && others.exact) → (name xs : List ℕ) (v w : Choice A B)
      (n m c d : ℕ) → OtherAnd (λ b. others.contents name xs b n c) v
      → OtherAnd (λ b. others.contents name xs b m d) w
      → (n ≡ m) × (c ≡ d) × SameChoice h.same others.same v w
  lifted_one is name xs (Other v) (Other w) n m c d p q =
      (others.laws (both h.exact others.exact is).1 name).one xs v w n m c d p q
  lifted_one is name xs (Other v) (First w) n m c d p q = absurd q
  lifted_one is name xs (First v) w n m c d p q = absurd p

  -- a variant that no name has: the others alone are read
  abbrev pub unnamed_case : Cases (Choice A B)
  unnamed_case = record {
    units = λ name. OtherAnd (others.units name);
    contents = λ name xs v n c. OtherAnd (λ b. others.contents name xs b n c) v;
    rejects = others.rejects;
    begins = others.begins;
    same = SameChoice h.same others.same;
    owned = h.owned && others.owned;
    exact = h.exact && others.exact;
    unit_one = λ name. other_one (others.units name) (others.units name) h.same others.same
        (others.unit_one name);
    laws = λ is name. record {
      one = lifted_one is name;
      within = λ xs v n c p.
          other_all (λ b q.
          (others.laws (both h.exact others.exact is).1 name).within xs b n c q) v p;
      positive = not_exact;
      alone = not_exact;
    };
  }

-- variants by their names: one, and then others
abbrev pub cases_by : {A B : Type 0} → Holding A → (List (Bor (List ℕ)) → Cases B)
    → List (Bor (List ℕ)) → Cases (Choice A B)
cases_by h others [] = unnamed_case h (others [])
cases_by h others (own ∷ names) = case own.now h (others names)

-- ---- a whole variant

-- a variant's name, and what follows it, by the form
abbrev pub named_format : {V : Type 0} → Cases V → Bool × ℕ → Format V
named_format cases form =
    keyed_pair text_key (reads_named cases form) (rejects_named cases form)
    (begins_named cases form) cases.same cases.owned

-- a variant's form is seen, and then its name and what follows that are read
pub record ReadsCase {V : Type 0} (cases : Cases V) (xs : List ℕ) (v : V) (n c : ℕ) : Type 0 where
  pub form : Bool × ℕ
  pub size : ℕ
  pub seen : ReadsForm xs form size 0
  pub between : ℕ
  pub named : ReadsByKey text_key (reads_named cases form) (drop size xs) v between c
  pub whole : n ≡ size + between

-- a variant's form is seen, and its name, or what follows that, is rejected
pub record RejectsAfterForm (rejects : Bool × ℕ → RejectsNamed) (xs : List ℕ)
    (budget : Option ℕ) (err : InputError) (rest : List ℕ) : Type 0 where
  pub form : Bool × ℕ
  pub size : ℕ
  pub seen : ReadsForm xs form size 0
  pub stop : RejectsByKey text_key (rejects form) (drop size xs) budget err rest

-- a variant is rejected: it has neither form, or what comes after its form is rejected
abbrev pub RejectsCase : (Bool × ℕ → RejectsNamed) → RejectsAt
RejectsCase rejects xs budget err rest =
    RejectsForm xs budget err rest ⊎ RejectsAfterForm rejects xs budget err rest

abbrev pub cases_inside : {V : Type 0} → Cases V → Format V
cases_inside cases =
    format_of (ReadsCase cases) cases.same (RejectsCase (rejects_named cases))
    (RejectsCase (begins_named cases)) cases.owned true

-- a variant's form is seen in one way
pub form_one : (xs : List ℕ) (f g : Bool × ℕ) (n m : ℕ) → ReadsForm xs f n 0 → ReadsForm xs g m 0
    → (f ≡ g) × (n ≡ m)
form_one xs (true, a) (true, b) n m p q =
    let same : a ≡ b = cc in (ap (λ k. (true, k)) same, p.1.1 ∙ sym q.1.1)
form_one xs (true, a) (false, b) n m p q =
    let same : a ≡ b = cc in absurd (omega (arith, p.1.0, q.1.0, same))
form_one xs (false, a) (true, b) n m p q =
    let same : a ≡ b = cc in absurd (omega (arith, p.1.0, q.1.0, same))
form_one xs (false, a) (false, b) n m p q =
    let same : a ≡ b = cc in (ap (λ k. (false, k)) same, p.1.1 ∙ sym q.1.1)

form_within : (xs : List ℕ) (f : Bool × ℕ) (n : ℕ) → ReadsForm xs f n 0 → n ≤ length xs
form_within xs (true, a) n p = omega (arith, p.1.1, one_byte xs a p.0)
form_within xs (false, a) n p = omega (arith, p.1.1)

module _ {V : Type 0} (cases : Cases V) (is : IsTrue cases.exact) where
  after_laws : (form : Bool × ℕ) (name : List ℕ)
      → IsLawfulReading (reads_named cases form name) cases.same false
  after_laws (true, first) name = cases.laws is name
  after_laws (false, first) name = record {
    one = λ xs v w n m c d p q.
        (p.1 ∙ sym q.1, p.2 ∙ sym q.2, cases.unit_one name v w p.0 q.0);
    within = λ xs v n c p. omega (arith, p.1);
    positive = not_exact;
    alone = not_exact;
  }

  named_laws : (form : Bool × ℕ) → IsLawfulReading (ReadsByKey text_key (reads_named cases form))
      cases.same true
  named_laws form = keyed_pair_laws text_key cases.same (reads_named cases form) (after_laws form)

  case_one : (xs : List ℕ) (v w : V) (n m c d : ℕ) → ReadsCase cases xs v n c
      → ReadsCase cases xs w m d → (n ≡ m) × (c ≡ d) × cases.same v w
  case_one xs v w n m c d p q =
      let f = form_one xs p.form q.form p.size q.size p.seen q.seen in
      let moved = subst (λ (form : Bool × ℕ). ReadsByKey text_key (reads_named cases form)
      (drop p.size xs) v p.between c) f.0 p.named in
      let e = (named_laws q.form).one (drop q.size xs) v w p.between q.between c d
      (subst (λ j. ReadsByKey text_key (reads_named cases q.form) (drop j xs) v p.between c) f.1
      moved) q.named in
      (omega (arith, p.whole, q.whole, f.1, e.0), e.1, e.2)

  pub case_lawful : IsLawful (cases_inside cases)
  case_lawful = lawful_as (record {
    one = case_one;
    within = λ xs v n c p. omega (
      arith,
      p.whole,
      form_within xs p.form p.size p.seen,
      (named_laws p.form).within (drop p.size xs) v p.between c p.named,
      length-drop p.size xs,
    );
    positive = λ e xs v n c p. omega (
      arith,
      p.whole,
      (named_laws p.form).positive e (drop p.size xs) v p.between c p.named,
    );
    alone = not_exact;
  })

-- an enum of these variants, under a step
abbrev pub enum_of : {V : Type 0} → Cases V → Promise V
enum_of cases = container cases.exact (stepped_format (codes "enum") (cases_inside cases)) refl
    (λ is. stepped_lawful (codes "enum") (cases_inside cases) (case_lawful cases is))
