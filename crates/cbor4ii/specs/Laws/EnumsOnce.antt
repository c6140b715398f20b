-- An enum, and a type with a test, are rejected with one error where their parts are.
use Rattle.std.proofs.Common.{◌≡◌, ℕ, ◌/◌, inl, inr, List, [], ◌∷◌, drop, Option}
use Rattle.std.proofs.Common.{Bool, true, false, IsTrue, sym, ap, ◌∙◌, subst, rules}
use denote.Ref.{Bor}
use Rattle.cbor4ii_items.specs.Budget.{CostFits}
use Rattle.cbor4ii_items.specs.Decoding.{Format, IsLawful}
use Rattle.cbor4ii_items.specs.InputError.{InputError}
use Rattle.cbor4ii_items.specs.NeverBoth.{NeverBoth}
use Rattle.cbor4ii_items.specs.OneError.{OneError, RejectsOnce}
use Rattle.cbor4ii.specs.Cases.{Cases, Holding, unit_case, held_case, otherwise, case, ByName}
use Rattle.cbor4ii.specs.Cases.{unnamed_case, cases_by}
use Rattle.cbor4ii.specs.Cases.{FirstAnd, OtherAnd, enum_of, reads_named, rejects_named, form_one}
use Rattle.cbor4ii.specs.Cases.{RejectsCase, ReadsCase, reads_by}
use Rattle.cbor4ii.specs.Checked.{IsMade, RejectsChecked, checked_from}
use Rattle.cbor4ii.specs.FieldKey.{text_key}
use Rattle.cbor4ii.specs.Fields.{ReadsByKey, RejectsByKey}
use Rattle.cbor4ii.specs.Made.{ReadsMade}
use Rattle.cbor4ii.specs.Once.{CasesOnce, HoldingOnce}
use Rattle.cbor4ii.specs.Typed.{Promise, in_words}
use Rattle.cbor4ii.specs.Variants.{ReadsForm, RejectsForm}
use Rattle.cbor4ii.specs.declared.serde.de.cases.Choice.{Choice}
use Rattle.cbor4ii.specs.declared.serde.de.cases.Choice.TheVariants.{First, Other}
use Rattle.cbor4ii.specs.Laws.StructsOnce.{pair_apart, pair_error}
use Rattle.cbor4ii.specs.Laws.TypedOnce.{stepped_once}

-- ---- what one variant holds

unit_case_apart : (form : Bool × ℕ) → NeverBoth (reads_by form unit_case.unit unit_case.content)
    (unit_case.rejects form)
unit_case_apart (true, first) xs budget e x s v n c p fits = p
unit_case_apart (false, first) xs budget e x s v n c p fits = let no = s.0 in cc

pub unit_case_once : HoldingOnce unit_case
unit_case_once = search (rules, unit_case_apart)

module _ {V : Type 0} (p : Promise V) (once : RejectsOnce p.format) where
  held_apart : (form : Bool × ℕ) → NeverBoth (reads_by form (held_case p).unit
      (held_case p).content) ((held_case p).rejects form)
  held_apart (true, first) xs budget e x s v n c r fits =
      once.apart xs budget e x s v n c r fits
  held_apart (false, first) xs budget e x s v n c r fits = r.0

  held_error : (form : Bool × ℕ) → OneError ((held_case p).rejects form)
  held_error (true, first) xs budget e f x y s t = once.one_error xs budget e f x y s t
  held_error (false, first) xs budget e f x y s t = (s.0 ∙ sym t.0, s.1 ∙ sym t.1)

  pub held_case_once : HoldingOnce (held_case p)
  held_case_once = record { apart = held_apart; one_error = held_error }

-- ---- all variants

otherwise_apart : {V : Type 0} (words : List ℕ) (form : Bool × ℕ) (name : List ℕ)
    → NeverBoth (reads_named (otherwise {V = V} words) form name)
    (rejects_named (otherwise {V = V} words) form name)
otherwise_apart words (true, first) name xs budget e x s v n c p fits = p
otherwise_apart words (false, first) name xs budget e x s v n c p fits = p.0

pub otherwise_once : {V : Type 0} (words : List ℕ) → CasesOnce (otherwise {V = V} words)
otherwise_once words = search (rules, otherwise_apart)

module _ {A B : Type 0} (own : List ℕ) (h : Holding A) (others : Cases B) (held : HoldingOnce h)
    (rest : CasesOnce others) where
  content_apart : (first : ℕ) (name xs : List ℕ) (budget : Option ℕ) (e : InputError) (x : List ℕ)
      → ByName own name (h.rejects (true, first) xs budget e x)
      (others.rejects name (true, first) xs budget e x) → (v : Choice A B) (n c : ℕ)
      → ByName own name (FirstAnd (λ a. h.content xs a n c) v)
      (OtherAnd (λ b. others.contents name xs b n c) v) → CostFits c budget → ⊥
  content_apart first name xs budget e x (inl s) (First v) n c (inl q) fits =
      held.apart (true, first) xs budget e x s.1 v n c q.1 fits
  content_apart first name xs budget e x (inl s) (Other v) n c (inl q) fits = absurd q.1
  content_apart first name xs budget e x (inl s) v n c (inr q) fits = absurd (q.0 s.0)
  content_apart first name xs budget e x (inr s) v n c (inl q) fits = absurd (s.0 q.0)
  content_apart first name xs budget e x (inr s) (Other v) n c (inr q) fits =
      rest.apart (true, first) name xs budget e x s.1 v n c q.1 fits
  content_apart first name xs budget e x (inr s) (First v) n c (inr q) fits = absurd q.1

  unit_apart : (first : ℕ) (name xs : List ℕ) (budget : Option ℕ) (e : InputError) (x : List ℕ)
      → ByName own name (h.rejects (false, first) xs budget e x)
      (others.rejects name (false, first) xs budget e x) → (v : Choice A B) (n c : ℕ)
      → ByName own name (FirstAnd h.unit v) (OtherAnd (others.units name) v) → n ≡ 0 → c ≡ 0
      → CostFits c budget → ⊥
  unit_apart first name xs budget e x (inl s) (First v) n c (inl q) size cost fits =
      held.apart (false, first) xs budget e x s.1 v n c (q.1, size, cost) fits
  unit_apart first name xs budget e x (inl s) (Other v) n c (inl q) size cost fits = absurd q.1
  unit_apart first name xs budget e x (inl s) v n c (inr q) size cost fits = absurd (q.0 s.0)
  unit_apart first name xs budget e x (inr s) v n c (inl q) size cost fits = absurd (s.0 q.0)
  unit_apart first name xs budget e x (inr s) (Other v) n c (inr q) size cost fits =
      rest.apart (false, first) name xs budget e x s.1 v n c (q.1, size, cost) fits
  unit_apart first name xs budget e x (inr s) (First v) n c (inr q) size cost fits = absurd q.1

  one_case_apart : (form : Bool × ℕ) (name : List ℕ)
      → NeverBoth (reads_named (case own h others) form name)
      (rejects_named (case own h others) form name)
  one_case_apart (true, first) name xs budget e x s v n c p fits =
      content_apart first name xs budget e x s v n c p fits
  one_case_apart (false, first) name xs budget e x s v n c p fits =
      unit_apart first name xs budget e x s v n c p.0 p.1 p.2 fits

  one_case_error : (form : Bool × ℕ) (name : List ℕ)
      → OneError (rejects_named (case own h others) form name)
  one_case_error form name xs budget e f x y (inl s) (inl t) =
      held.one_error form xs budget e f x y s.1 t.1
  one_case_error form name xs budget e f x y (inl s) (inr t) = absurd (t.0 s.0)
  one_case_error form name xs budget e f x y (inr s) (inl t) = absurd (s.0 t.0)
  one_case_error form name xs budget e f x y (inr s) (inr t) =
      rest.one_error form name xs budget e f x y s.1 t.1

  case_once : CasesOnce (case own h others)
  case_once = record { apart = one_case_apart; one_error = one_case_error }

-- ---- variants by their names

module _ {A B : Type 0} (h : Holding A) (others : Cases B) (rest : CasesOnce others) where
  unnamed_apart : (form : Bool × ℕ) (name : List ℕ)
      → NeverBoth (reads_named (unnamed_case h others) form name)
      (rejects_named (unnamed_case h others) form name)
  unnamed_apart (true, first) name xs budget e x s (First v) n c p fits = absurd p
  unnamed_apart (true, first) name xs budget e x s (Other v) n c p fits =
      rest.apart (true, first) name xs budget e x s v n c p fits
  unnamed_apart (false, first) name xs budget e x s (First v) n c p fits = absurd p.0
  unnamed_apart (false, first) name xs budget e x s (Other v) n c p fits =
      rest.apart (false, first) name xs budget e x s v n c p fits

  unnamed_case_once : CasesOnce (unnamed_case h others)
  unnamed_case_once = record { apart = unnamed_apart; one_error = rest.one_error }

pub cases_by_once : {A B : Type 0} (h : Holding A) (others : List (Bor (List ℕ)) → Cases B)
    → HoldingOnce h → ((names : List (Bor (List ℕ))) → CasesOnce (others names))
    → (names : List (Bor (List ℕ))) → CasesOnce (cases_by h others names)
cases_by_once h others held rest [] = unnamed_case_once h (others []) (rest [])
cases_by_once h others held rest (own ∷ names) =
    case_once own.now h (others names) held (rest names)

-- ---- a whole variant

begins_form : (xs : List ℕ) (budget : Option ℕ) (e : InputError) (x : List ℕ) (form : Bool × ℕ)
    (n c : ℕ) → RejectsForm xs budget e x → ReadsForm xs form n c → ⊥
begins_form [] budget e x form n c s p = let first = p.0 in cc
begins_form (b ∷ bs) budget e x (true, first) n c s p =
    let same : b ≡ first = (let begins = p.0 in cc) in s.0 (same ∙ p.1.0)
begins_form (b ∷ bs) budget e x (false, first) n c s p =
    let same : b ≡ first = (let begins = p.0 in cc) in s.1 (ap (λ k. k / 32) same ∙ p.1.0)

form_error : (xs : List ℕ) (budget : Option ℕ) (e f : InputError) (x y : List ℕ)
    → RejectsForm xs budget e x → RejectsForm xs budget f y → (e ≡ f) × (x ≡ y)
form_error [] budget e f x y s t = (s.0 ∙ sym t.0, s.1 ∙ sym t.1)
form_error (b ∷ bs) budget e f x y s t = (s.2 ∙ sym t.2, s.3 ∙ sym t.3)

module _ {V : Type 0} (cases : Cases V) (once : CasesOnce cases) where
  case_apart : NeverBoth (ReadsCase cases) (RejectsCase (rejects_named cases))
  case_apart xs budget e x (inl s) v n c p fits =
      begins_form xs budget e x p.form p.size 0 s p.seen
  case_apart xs budget e x (inr s) v n c p fits =
      let f = form_one xs p.form s.form p.size s.size p.seen s.seen in
      let moved = subst (λ (form : Bool × ℕ). ReadsByKey text_key (reads_named cases form)
      (drop p.size xs) v p.between c) f.0 p.named in
      pair_apart text_key (reads_named cases s.form) (rejects_named cases s.form) (once.apart
      s.form)
      (once.one_error s.form) (drop s.size xs) budget e x s.stop v p.between c
      (subst (λ k. ReadsByKey text_key (reads_named cases s.form) (drop k xs) v p.between c) f.1
      moved)
      fits

  case_error : OneError (RejectsCase (rejects_named cases))
  case_error xs budget e f x y (inl s) (inl t) = form_error xs budget e f x y s t
  case_error xs budget e f x y (inl s) (inr t) =
      absurd (begins_form xs budget e x t.form t.size 0 s t.seen)
  case_error xs budget e f x y (inr s) (inl t) =
      absurd (begins_form xs budget f y s.form s.size 0 t s.seen)
  case_error xs budget e f x y (inr s) (inr t) =
      let same = form_one xs s.form t.form s.size t.size s.seen t.seen in
      let moved = subst (λ (form : Bool × ℕ). RejectsByKey text_key (rejects_named cases form)
      (drop s.size xs) budget e x) same.0 s.stop in
      pair_error text_key (reads_named cases t.form) (rejects_named cases t.form) (once.apart
      t.form)
      (once.one_error t.form) (drop t.size xs) budget e f x y
      (subst (λ k. RejectsByKey text_key (rejects_named cases t.form) (drop k xs) budget e x) same.1
      moved) t.stop

  pub enum_once : RejectsOnce (enum_of cases).format
  enum_once = search (rules, stepped_once, case_apart, case_error)

-- ---- a type with a test

module _ {V W : Type 0} (s : Format V) (lawful : IsLawful s) (once : RejectsOnce s)
    (words : V → Option (List ℕ)) (makes : V → W → Type 0)
    (same_test : (v w : V) → s.same v w → words v ≡ words w) where
  checked_apart : NeverBoth (ReadsMade s.reads (IsMade words makes))
      (RejectsChecked s.rejects s.reads words)
  checked_apart xs budget e x (inl r) w n c p fits =
      once.apart xs budget e x r p.part n c p.read fits
  checked_apart xs budget e x (inr r) w n c p fits =
      let same = (lawful.one xs p.part r.part n r.count c r.cost p.read r.read).2 in
      let passes = p.made.passes in
      let unmade = r.unmade in
      let test = same_test p.part r.part same in
      cc

  checked_error : OneError (RejectsChecked s.rejects s.reads words)
  checked_error xs budget e f x y (inl r) (inl t) = once.one_error xs budget e f x y r t
  checked_error xs budget e f x y (inl r) (inr t) =
      absurd (once.apart xs budget e x r t.part t.count t.cost t.read t.fits)
  checked_error xs budget e f x y (inr r) (inl t) =
      absurd (once.apart xs budget f y t r.part r.count r.cost r.read r.fits)
  checked_error xs budget e f x y (inr r) (inr t) =
      let same = lawful.one xs r.part t.part r.count t.count r.cost t.cost r.read t.read in
      let text : r.text ≡ t.text =
      (let a = r.unmade in let b = t.unmade in let test = same_test r.part t.part same.2 in cc) in (
        r.is ∙ (ap (λ z. in_words z) text ∙ sym t.is),
        r.left ∙ (ap (λ k. drop k xs) same.0 ∙ sym t.left),
      )

pub checked_once : {V W : Type 0} (p : Promise V) (words : V → Option (List ℕ))
    (makes : V → W → Type 0) (takes_memory : Bool) → IsTrue p.exact → RejectsOnce p.format
    → ((v w : V) → p.format.same v w → words v ≡ words w)
    → RejectsOnce (checked_from words makes takes_memory p).format
checked_once p words makes takes_memory is once same_test = record {
  apart = checked_apart p.format (p.lawful is) once words makes same_test;
  one_error = checked_error p.format (p.lawful is) once words makes same_test;
}
