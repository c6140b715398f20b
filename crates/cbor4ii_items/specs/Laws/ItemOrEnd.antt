-- An item, or the end of a sequence.
use Rattle.std.proofs.Common.{◌≡◌, ℕ, ◌≤◌, List, [], ◌∷◌, length, drop, Option, None, Some, Bool}
use Rattle.std.proofs.Common.{true, false, Ok, Err, refl, sym, ap, ◌∙◌, arith, ◌==◌, ne_eqb, rules}
use Rattle.cbor4ii_rw.specs.Reader.{Shows, IsPrefix}
use Rattle.cbor4ii_rw.specs.View.{View, IfKnown}
use Rattle.cbor4ii_rw.specs.declared.error.DecodeError.{DecodeError}
use Rattle.cbor4ii_items.specs.Decoding.{Format, Decodes, NoneRead}
use Rattle.cbor4ii_items.specs.InputError.{InputError, is_out_of_memory}
use Rattle.cbor4ii_items.specs.ItemOrEnd.{end_at, item_or_end}
use Rattle.cbor4ii_items.specs.Laws.Answering.{fits_zero}
use Rattle.cbor4ii_items.specs.Laws.Calls.{IsRejected, err_of, err_after, decodes_exactly, ok}
use Rattle.cbor4ii_items.specs.Laws.Calls.{ok_after, of_exact}
use Rattle.cbor4ii_items.specs.Laws.Outcome.{same_value}
use Rattle.cbor4ii_items.specs.Laws.Running.{shows_kept}
use Rattle.cbor4ii_items.specs.Reading.{Runs}

-- ---- whether no byte is left

end_of : (shown xs : List ℕ) → IsPrefix 1 shown xs → end_at xs ≡ Ok (length shown == 0, xs)
end_of [] [] p = refl
end_of [] (x ∷ xs) p = let none : x ∷ xs ≡ [] = p.ends (omega arith) refl in cc
end_of (s ∷ ss) [] p = absurd (omega (arith, p.within))
end_of (s ∷ ss) (x ∷ xs) p = search (rules, ne_eqb)

pub runs_end : {E : Type 0} {shown : List ℕ} {a m : View} → Shows shown a m
    → IfKnown a.known (IsPrefix 1 shown) → Runs {E = E} end_at a m (Ok (length shown == 0))
runs_end {shown = shown} s prefix = search (rules, shows_kept, end_of)

ended : (xs ys : List ℕ) → end_at xs ≡ Ok (true, ys) → (xs ≡ []) × (ys ≡ drop 0 xs)
ended [] ys e = (refl, sym (same_value (end_at []) refl e).1)
ended (x ∷ xs) ys e = let no = (same_value (end_at (x ∷ xs)) refl e).0 in absurd (cc no)

goes_on : (xs ys : List ℕ) → end_at xs ≡ Ok (false, ys) → (1 ≤ length xs) × (ys ≡ xs)
goes_on [] ys e = let no = (same_value (end_at []) refl e).0 in absurd (cc no)
goes_on (x ∷ xs) ys e = (omega arith, sym (same_value (end_at (x ∷ xs)) refl e).1)

-- ---- what comes next

none_next : {V : Type 0} (s : Format V) (xs : List ℕ) (budget : Option ℕ) → 1 ≤ length xs
    → NoneRead s.reads xs budget → NoneRead (item_or_end s).reads xs budget
none_next s xs budget some none None n c r fits = absurd (omega (arith, some, ap length r.0))
none_next s xs budget some none (Some v) n c r fits = none v n c r.1 fits

never : {V : Type 0} (s : Format V) (xs : List ℕ) (budget : Option ℕ) (z : InputError)
    (ys : List ℕ) → end_at xs ≡ Err (z, ys) → IsRejected true (item_or_end s) xs budget z ys
never s [] budget z ys e = cc
never s (x ∷ xs) budget z ys e = cc

module _ {V E : Type 0} (s : Format V) {a m : View} where
  pub none_is_next : Runs {E = E} end_at a m (Ok true)
      → Decodes {E = E} (item_or_end s) a m (Ok None)
  none_is_next p = search (rules, ok, fits_zero)

  pub end_fails : {e : DecodeError E} → Runs {V = Bool} end_at a m (Err e)
      → is_out_of_memory e ≡ false → Decodes (item_or_end s) a m (Err e)
  end_fails p memory =
      decodes_exactly (err_of (item_or_end s) p memory (λ xs z ys f. never s xs a.budget z ys f))

  module _ {b : View} (p : Runs {E = E} end_at a m (Ok false)) where
    pub item_is_next : {v : V} → Decodes {E = E} s m b (Ok v)
        → Decodes {E = E} (item_or_end s) a b (Ok (Some v))
    item_is_next d = ok_after s (item_or_end s) p.moves.by (λ xs known.
        let h = p.answers xs known in
        let e = goes_on xs h.0 h.2 in (
          xs,
          h.1 ∙ ap Some e.1,
          λ n c r fits. record {
            count = n;
            cost = c;
            read = (e.0, r);
            fits = fits;
            left = refl;
          },
        )) (λ some. cc) d

    pub item_fails : {e : DecodeError E} → Decodes s m b (Err e)
        → Decodes (item_or_end s) a b (Err e)
    item_fails d = decodes_exactly (err_after s (item_or_end s) p.moves.by (λ xs known.
        let h = p.answers xs known in
        let e = goes_on xs h.0 h.2 in (
          xs,
          h.1 ∙ ap Some e.1,
          record {
            none = λ is. none_next s xs a.budget e.0;
            rejects = λ z ys r. (e.0, r);
            begins = λ z ys r. (e.0, r);
          },
        )) (λ owned. owned) (λ takes. takes) (of_exact d))

-- none is answered at the end alone
pub none_at_end : {E : Type 0} {a m : View} → Runs {E = E} end_at a m (Ok true)
    → IfKnown a.known (λ xs. xs ≡ [])
none_at_end p = λ xs known. let h = p.answers xs known in (ended xs h.0 h.2).0
