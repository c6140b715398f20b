-- What a sequence answers, by its head and by the parts after it.
use Rattle.std.proofs.Common.{◌≡◌, ℕ, ◌+◌, ◌<◌, inl, inr, List, [], ◌∷◌, length, drop, take, Option}
use Rattle.std.proofs.Common.{Some, None, Ok, Err, Bool, false, refl, sym, ap, ◌∙◌, subst, rules}
use Rattle.cbor4ii_rw.specs.View.{View}
use Rattle.cbor4ii_rw.specs.declared.error.DecodeError.{DecodeError}
use Rattle.cbor4ii_items.specs.Head.{indefinite_head}
use Rattle.cbor4ii_items.specs.Heads.{ReadsHead}
use Rattle.cbor4ii_items.specs.Decoding.{NoneRead, Format, Decodes, DecodesIf}
use Rattle.cbor4ii_items.specs.Lengths.{ReadsLength, length_format}
use Rattle.cbor4ii_items.specs.Sequences.{definite_rejected, indefinite_rejected}
use Rattle.cbor4ii_items.specs.Sequences.{length_rejected, count_of, indefinite_of, inside_of}
use Rattle.cbor4ii_items.specs.Laws.Answering.{fits_zero}
use Rattle.cbor4ii_items.specs.Laws.Calls.{err_after, Leads}
use Rattle.cbor4ii_items.specs.Laws.Prefixes.{drop_more}
use Rattle.cbor4ii_items.specs.Laws.Running.{kept_alike}
use Rattle.cbor4ii_items.specs.Laws.Strings.{head_not_indefinite}

module _ {P W : Type 0} (items : W → List P) (name : List ℕ) (major : ℕ) (s : Format P)
    (small : major < 8) where
  counted_none : (xs : List ℕ) (count n : ℕ) (budget : Option ℕ) → ReadsHead major 8 xs count n
      → NoneRead (count_of items s count).reads (drop n xs) budget
      → NoneRead (inside_of items name major s).reads xs budget
  counted_none xs count n budget h none v k c read fits = search rules

  opened_none : (xs : List ℕ) (budget : Option ℕ) → take 1 xs ≡ indefinite_head major ∷ []
      → NoneRead (indefinite_of items name s).reads (drop 1 xs) budget
      → NoneRead (inside_of items name major s).reads xs budget
  opened_none xs budget h none v k c read fits = elim read [
    | inl r ↦ head_not_indefinite major xs (length (items v)) r.before small r.head h
    | inr r ↦ none v r.between c r.parts fits
  ]

  no_head : (xs : List ℕ) (budget : Option ℕ) → NoneRead (ReadsLength major) xs budget
      → NoneRead (inside_of items name major s).reads xs budget
  no_head xs budget none v n c read fits = elim read [
    | inl r ↦ none (Some (length (items v))) r.before 0 (r.head, refl) (fits_zero budget)
    | inr r ↦ none None 1 0 (r.begins, refl, refl) (fits_zero budget)
  ]

  pub head_err : {E : Type 0} {exact : Bool} {a m : View} {e : DecodeError E}
      → DecodesIf exact (length_format name major) a m (Err e)
      → DecodesIf exact (inside_of items name major s) a m (Err e)
  head_err {a = a} d =
      err_after (length_format name major) (inside_of items name major s) (kept_alike a)
      (λ xs known. (
        xs,
        known,
        record {
          none = λ is. no_head xs a.budget;
          rejects = λ z ys h. length_rejected h.0 h.1;
          begins = λ z ys h. length_rejected h.0 h.1;
        },
      )) (λ owned. refl) (λ takes. (let no : false ≡ _ = takes in cc)) d

  -- a head that counts
  pub counts : {E : Type 0} {exact : Bool} {a m : View} {l : Option ℕ} {count : ℕ} → l ≡ Some count
      → Decodes {E = E} (length_format name major) a m (Ok l)
      → Leads exact (count_of items s count) (inside_of items name major s) a m
  counts {a = a} {count = count} is d = record {
    kept = d.moves.by;
    progress = λ some. d.progress refl;
    owned = λ o. o;
    memory = λ takes. takes;
    at = λ xs known.
        let p = d.sound.at xs known in
        let head : ReadsHead major 8 xs count p.count =
        (subst (λ k. ReadsLength major xs k p.count p.cost) is p.read).0 in (
          drop p.count xs,
          p.left,
          (λ v n c r fits. record {
            count = p.count + n;
            cost = c;
            read = inl (record {
              before = p.count;
              head = subst (λ j. ReadsHead major 8 xs j p.count) (sym r.0) head;
              between = n;
              parts = r.1;
              size = refl;
            });
            fits = fits;
            left = drop_more n p.count xs;
          }),
          record {
            none = λ is. counted_none xs count p.count a.budget head;
            rejects = λ z zs. definite_rejected count p.count head;
            begins = λ z zs. definite_rejected count p.count head;
          },
        );
  }

  -- the first byte of an indefinite length
  pub opens : {E : Type 0} {exact : Bool} {a m : View} {l : Option ℕ} → l ≡ None
      → Decodes {E = E} (length_format name major) a m (Ok l)
      → Leads exact (indefinite_of items name s) (inside_of items name major s) a m
  opens {a = a} is d = record {
    kept = d.moves.by;
    progress = λ some. d.progress refl;
    owned = λ o. o;
    memory = λ takes. takes;
    at = λ xs known.
        let p = d.sound.at xs known in
        let f = subst (λ k. ReadsLength major xs k p.count p.cost) is p.read in (
          drop 1 xs,
          p.left ∙ ap (λ n. Some (drop n xs)) f.1,
          (λ v n c r fits. record {
            count = 1 + n;
            cost = c;
            read = inr (record { begins = f.0; between = n; parts = r; size = refl });
            fits = fits;
            left = drop_more n 1 xs;
          }),
          record {
            none = λ is. opened_none xs a.budget f.0;
            rejects = λ z zs. indefinite_rejected f.0;
            begins = λ z zs. indefinite_rejected f.0;
          },
        );
  }
