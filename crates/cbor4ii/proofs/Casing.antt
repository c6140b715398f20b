-- A variant: its form, its name, and what it holds.
use Rattle.std.proofs.Common.{◌≡◌, ◌≢◌, ◌+◌, inl, inr, ℕ, zero, suc, List, [], ◌∷◌, drop}
use Rattle.std.proofs.Common.{Bool, true, false, Result, Ok, Err, refl}
use Rattle.std.proofs.Common.{subst, Option, arith, rules}
use Rattle.std.specs.Prelude.{not}
use denote.Ref.{Bor}
use Rattle.cbor4ii_rw.specs.View.{View}
use Rattle.cbor4ii_rw.specs.declared.error.DecodeError.{DecodeError}
use Rattle.cbor4ii_items.specs.Decoding.{NoneRead, Decodes, DecodesIf}
use Rattle.cbor4ii_items.specs.Laws.Answering.{fits_zero}
use Rattle.cbor4ii_items.specs.Laws.Calls.{ok, ok_after, err_after, of_exact, exactly_ok}
use Rattle.cbor4ii_items.specs.Laws.Calls.{exact_less}
use Rattle.cbor4ii_items.specs.Laws.Containers.{both}
use Rattle.cbor4ii_items.specs.Laws.Prefixes.{drop_more}
use Rattle.cbor4ii.specs.declared.serde.de.cases.Choice.TheVariants.{First, Other}
use Rattle.cbor4ii.specs.Cases.{Cases, Holding, reads_by, holding_format, case_format, case}
use Rattle.cbor4ii.specs.Cases.{held_case, unnamed_case, cases_by, first_all}
use Rattle.cbor4ii.specs.Cases.{other_all, reads_named, named_format, cases_inside, form_one}
use Rattle.cbor4ii.specs.Names.{StandsAt, IsFirst, IsAfter}
use Rattle.cbor4ii.specs.Typed.{Promise, Deserializes}
use Rattle.cbor4ii.specs.Variants.{form_format}
use Rattle.cbor4ii.proofs.Promised.{tell}
use Rattle.cbor4ii.proofs.Forms.{sound_by, err_here, ReadAs, in_form, as_read}

-- ---- what one variant holds

module _ {T E : Type 0} (p : Promise T) {a b : View} where
  pub held_then : (form : Bool × ℕ) → not form.0 ≡ false → (r : Result T (DecodeError E))
      → Deserializes p a b r → DecodesIf p.exact (holding_format (held_case p) form) a b r
  held_then (false, first) is r d = cc
  held_then (true, first) is (Ok v) d =
      of_exact (ok (holding_format (held_case p) (true, first)) d.moves.by (λ some. cc)
      (sound_by d.sound (λ xs n c r. r)))
  held_then (true, first) is (Err e) d = search (rules, err_here, tell)

-- ---- one variant, and those after it

module _ {A B : Type 0} (own : List ℕ) (h : Holding A) (others : Cases B) {name : List ℕ} where
  none_first : (form : Bool × ℕ) → name ≡ own → (xs : List ℕ) (budget : Option ℕ)
      → NoneRead (reads_by form h.unit h.content) xs budget
      → NoneRead (reads_named (case own h others) form name) xs budget
  none_first (true, first) same xs budget none w n c (inl p) fits =
      first_all (λ v q. none v n c q fits) w p.1
  none_first (true, first) same xs budget none w n c (inr p) fits = absurd (p.0 same)
  none_first (false, first) same xs budget none w n c (inl p, e, f) fits =
      first_all (λ v q. none v n c (q, e, f) fits) w p.1
  none_first (false, first) same xs budget none w n c (inr p, e, f) fits = absurd (p.0 same)

  none_other : (form : Bool × ℕ) → name ≢ own → (xs : List ℕ) (budget : Option ℕ)
      → NoneRead (reads_named others form name) xs budget
      → NoneRead (reads_named (case own h others) form name) xs budget
  none_other (true, first) apart xs budget none w n c (inl p) fits = absurd (apart p.0)
  none_other (true, first) apart xs budget none w n c (inr p) fits =
      other_all (λ v q. none v n c q fits) w p.1
  none_other (false, first) apart xs budget none w n c (inl p, e, f) fits = absurd (apart p.0)
  none_other (false, first) apart xs budget none w n c (inr p, e, f) fits =
      other_all (λ v q. none v n c (q, e, f) fits) w p.1

  first_read : (form : Bool × ℕ) → name ≡ own → (xs : List ℕ) (v : A) (n c : ℕ)
      → reads_by form h.unit h.content xs v n c
      → reads_named (case own h others) form name xs (First v) n c
  first_read (true, first) same xs v n c r = inl (same, r)
  first_read (false, first) same xs v n c r = (inl (same, r.0), r.1, r.2)

  other_read : (form : Bool × ℕ) → name ≢ own → (xs : List ℕ) (v : B) (n c : ℕ)
      → reads_named others form name xs v n c
      → reads_named (case own h others) form name xs (Other v) n c
  other_read (true, first) apart xs v n c r = inr (apart, r)
  other_read (false, first) apart xs v n c r = (inr (apart, r.0), r.1, r.2)

  first_as : (form : Bool × ℕ) → name ≡ own
      → ReadAs (holding_format h form) (case_format (case own h others) form name) First
  first_as form same = search (rules, first_read, none_first, inl)

  other_as : (form : Bool × ℕ) → name ≢ own
      → ReadAs (case_format others form name) (case_format (case own h others) form name) Other
  other_as form apart = search (rules, other_read, none_other, inr)

-- no variant of these names
module _ {A B : Type 0} (h : Holding A) (others : Cases B) (name : List ℕ) where
  none_unnamed : (form : Bool × ℕ) (xs : List ℕ) (budget : Option ℕ)
      → NoneRead (reads_named others form name) xs budget
      → NoneRead (reads_named (unnamed_case h others) form name) xs budget
  none_unnamed (true, first) xs budget none w n c r fits =
      other_all (λ v q. none v n c q fits) w r
  none_unnamed (false, first) xs budget none w n c (r, e, f) fits =
      other_all (λ v q. none v n c (q, e, f) fits) w r

  unnamed_read : (form : Bool × ℕ) (xs : List ℕ) (v : B) (n c : ℕ)
      → reads_named others form name xs v n c
      → reads_named (unnamed_case h others) form name xs (Other v) n c
  unnamed_read (true, first) xs v n c r = r
  unnamed_read (false, first) xs v n c r = r

  unnamed_as : (form : Bool × ℕ)
      → ReadAs (case_format others form name) (case_format (unnamed_case h others) form name) Other
  unnamed_as form = search (rules, unnamed_read, none_unnamed)

-- ---- the form, and what comes after it

module _ {V E : Type 0} (cases : Cases V) {a m : View} where
  pub form_err : {x : Bool} {e : DecodeError E} → Decodes form_format a m (Err e)
      → DecodesIf x (cases_inside cases) a m (Err e)
  form_err d =
      err_here form_format (cases_inside cases) (λ xs. record {
        none = λ is none v n c q fits. none q.form q.size 0 q.seen (fits_zero a.budget);
        rejects = λ z ys. inl;
        begins = λ z ys. inl;
      }) (λ owned. refl) (λ takes. refl) (of_exact d)

  module _ (form : Bool × ℕ) (d : Decodes {E = E} form_format a m (Ok form)) where
    no_named : (xs : List ℕ) (i k : ℕ) → form_format.reads xs form i k
        → NoneRead (named_format cases form).reads (drop i xs) a.budget
        → NoneRead (cases_inside cases).reads xs a.budget
    no_named xs i k seen none v n c q fits =
        let e = form_one xs q.form form q.size i q.seen (seen.0, seen.1, refl) in
        none v q.between c
        (subst (λ (f : Bool × ℕ). (named_format cases f).reads (drop i xs) v q.between c) e.0
        (subst (λ j. (named_format cases q.form).reads (drop j xs) v q.between c) e.1 q.named))
        fits

    pub form_then : {x : Bool} {b : View} (r : Result V (DecodeError E))
        → DecodesIf x (named_format cases form) m b r
        → DecodesIf x (cases_inside cases) a b r
    form_then (Ok v) h = of_exact (
        ok_after (named_format cases form) (cases_inside cases) d.moves.by (λ xs known.
        let p = d.sound.at xs known in (
          drop p.count xs,
          p.left,
          λ n c r fits. record {
            count = p.count + n;
            cost = c;
            read = record {
              form = form;
              size = p.count;
              seen = (p.read.0, p.read.1, refl);
              between = n;
              named = r;
              whole = refl;
            };
            fits = fits;
            left = drop_more n p.count xs;
          },
        )) (λ some. omega (arith, h.progress refl, d.moves.by.bound)) (exactly_ok h))
    form_then (Err e) h =
        err_after (named_format cases form) (cases_inside cases) d.moves.by (λ xs known.
        let p = d.sound.at xs known in (
          drop p.count xs,
          p.left,
          record {
            none = λ is. no_named xs p.count p.cost p.read;
            rejects = λ z ys s. inr (record {
              form = form;
              size = p.count;
              seen = (p.read.0, p.read.1, refl);
              stop = s;
            });
            begins = λ z ys s. inr (record {
              form = form;
              size = p.count;
              seen = (p.read.0, p.read.1, refl);
              stop = s;
            });
          },
        )) (λ owned. owned) (λ takes. refl) h

-- ---- by the names

module _ {A B E : Type 0} (h : Holding A) (others : List (Bor (List ℕ)) → Cases B)
    (form : Bool × ℕ) (name : List ℕ) {a b : View} where
  pub first_then : (names : List (Bor (List ℕ))) (at : ℕ) → IsFirst names at
      → StandsAt name names at → (r : Result A (DecodeError E))
      → DecodesIf h.exact (holding_format h form) a b r
      → DecodesIf (cases_by h others names).exact
      (case_format (cases_by h others names) form name) a b (in_form First r)
  first_then (own ∷ names) zero first which r d =
      as_read (first_as own.now h (others names) form which) r
      (exact_less (λ is. (both h.exact (others names).exact is).0) d)
  first_then _ _ first which r d = absurd first

  moved : (names trailing : List (Bor (List ℕ))) (at next : ℕ) → trailing ≡ names → next ≡ at
      → (r : Result B (DecodeError E))
      → (StandsAt name trailing next
      → DecodesIf (others trailing).exact (case_format (others trailing) form name) a b r)
      → StandsAt name names at
      → DecodesIf (others names).exact (case_format (others names) form name) a b r
  moved names trailing at next same place r d = search rules

  pub other_then : (names : List (Bor (List ℕ))) (at : ℕ) (trailing : List (Bor (List ℕ)))
      (next : ℕ) → IsAfter names at trailing next → StandsAt name names at
      → (r : Result B (DecodeError E))
      → (StandsAt name trailing next
      → DecodesIf (others trailing).exact (case_format (others trailing) form name) a b r)
      → DecodesIf (cases_by h others names).exact
      (case_format (cases_by h others names) form name) a b (in_form Other r)
  other_then [] at trailing next after which r d =
      as_read (unnamed_as h (others []) name form) r
      (exact_less (λ is. (both h.exact (others []).exact is).1)
      (moved [] trailing at next after.0 after.1 r d tt))
  other_then (own ∷ names) zero trailing next after which r d = absurd after
  other_then (own ∷ names) (suc at) trailing next after which r d =
      as_read (other_as own.now h (others names) form which.0) r
      (exact_less (λ is. (both h.exact (others names).exact is).1)
      (moved names trailing at next after.0 after.1 r d which.1))
