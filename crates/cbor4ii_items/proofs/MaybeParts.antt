-- Arrays of no item or one, one part after another.
use Rattle.std.proofs.Common.{◌≡◌, ℕ, zero, suc, ◌+◌, ◌≤◌, inl, inr, List, length, drop, take}
use Rattle.std.proofs.Common.{Option, Some, None, Ok, Err, Bool, true, false, refl, sym, ap}
use Rattle.std.proofs.Common.{subst, arith, rules}
use Rattle.std.specs.Prelude.{codes}
use Rattle.cbor4ii_rw.specs.View.{View}
use Rattle.cbor4ii_rw.specs.declared.error.DecodeError.{DecodeError}
use Rattle.cbor4ii_items.specs.Head.{IsBytes}
use Rattle.cbor4ii_items.specs.InputError.{InputError}
use Rattle.cbor4ii_items.specs.Reading.{go_on}
use Rattle.cbor4ii_items.specs.Decoding.{NoneRead, Format, Decodes}
use Rattle.cbor4ii_items.specs.Budget.{CostFits}
use Rattle.cbor4ii_items.specs.Laws.Outcome.{same_value, same_input_error}
use Rattle.cbor4ii_items.specs.Heads.{ReadsHead}
use Rattle.cbor4ii_items.specs.Laws.Heads.{read_head, head_read, head_one}
use Rattle.cbor4ii_items.specs.ReadHead.{length_at}
use Rattle.cbor4ii_items.specs.Laws.ProgramEnds.{ok_parts, err_parts, length_some, length_none}
use Rattle.cbor4ii_items.specs.Laws.Strings.{length_known}
use Rattle.cbor4ii_items.specs.Laws.Prefixes.{drop_more}
use Rattle.cbor4ii_items.specs.Laws.Arguments.{ReadBy}
use Rattle.cbor4ii_items.specs.Maybe.{ReadsFew, ReadsMaybe, RejectsFew, few_head_rejected}
use Rattle.cbor4ii_items.specs.Maybe.{few_indefinite, few_other, maybe_head_rejected}
use Rattle.cbor4ii_items.specs.Maybe.{maybe_item_rejected, few_by, few_at, few_format}
use Rattle.cbor4ii_items.specs.Laws.Maybe.{two_counts, maybe_format}
use Rattle.cbor4ii_items.specs.Laws.Calls.{ok, ok_after, err_after, of_exact, decodes_exactly}
use Rattle.cbor4ii_items.specs.Laws.Running.{kept_alike}
use Rattle.cbor4ii_items.specs.Laws.Answering.{fits_zero}
use Rattle.cbor4ii_items.proofs.Leaves.{IsLeaf}
use Rattle.cbor4ii_items.proofs.StringsRead.{no_length}

-- ---- the head

few_head : (xs ys : List ℕ) (k n : ℕ) → length_at (codes "array") 4 xs ≡ Ok (Some k, ys)
    → ys ≡ drop n xs → n ≤ length xs → IsBytes (take n xs) → ReadsHead 4 8 xs k n
few_head xs ys k n e is within bytes = search (rules, read_head, length_some)

few_found : (xs ys : List ℕ) (v : Bool) (n : ℕ) (l : Option ℕ)
    → length_at (codes "array") 4 xs ≡ Ok (l, ys) → few_by l ys ≡ Ok (v, drop n xs) → n ≤ length xs
    → IsBytes (take n xs) → ReadsFew xs v n 0
few_found xs ys v n None e f within bytes = cc
few_found xs ys v n (Some zero) e f within bytes = search (rules, same_value, few_head)
few_found xs ys v n (Some (suc zero)) e f within bytes = search (rules, same_value, few_head)
few_found xs ys v n (Some (suc (suc k))) e f within bytes = cc

few_means : (xs : List ℕ) (v : Bool) (n : ℕ) → few_at xs ≡ Ok (v, drop n xs) → n ≤ length xs
    → IsBytes (take n xs) → ReadsFew xs v n 0
few_means xs v n e within bytes =
    let g = ok_parts (length_at (codes "array") 4 xs) few_by v (drop n xs) e in
    few_found xs g.rest v n g.value g.begun g.ended within bytes

few_known : (xs : List ℕ) (k n : ℕ) → ReadsHead 4 8 xs k n → few_at xs ≡ few_by (Some k) (drop n xs)
few_known xs k n h =
    ap (λ z. go_on z few_by) (length_known (codes "array") 4 xs k n (omega arith) h)

few_again : (xs : List ℕ) (v : Bool) (n c : ℕ) → ReadsFew xs v n c → ReadBy few_at xs v n c
few_again xs false n c p = search (rules, head_read, few_known)
few_again xs true n c p = search (rules, head_read, few_known)

few_stopped : (xs ys : List ℕ) (budget : Option ℕ) (z : InputError) (n : ℕ) (l : Option ℕ)
    → length_at (codes "array") 4 xs ≡ Ok (l, ys) → few_by l ys ≡ Err (z, drop n xs) → n ≤ length xs
    → IsBytes (take n xs) → RejectsFew xs budget z (drop n xs)
few_stopped xs ys budget z n None e f within bytes =
    search (rules, length_none, same_input_error, few_indefinite)
few_stopped xs ys budget z n (Some zero) e f within bytes = cc
few_stopped xs ys budget z n (Some (suc zero)) e f within bytes = cc
few_stopped xs ys budget z n (Some (suc (suc k))) e f within bytes =
    let p = same_input_error (few_by (Some (suc (suc k))) ys) refl f in
    few_other (suc (suc k)) n (few_head xs ys (suc (suc k)) n e p.1 within bytes)
    (λ t. omega (arith, t)) (λ t. omega (arith, t)) (sym p.0) refl

few_complete : (xs : List ℕ) (budget : Option ℕ) (z : InputError) (n : ℕ)
    → few_at xs ≡ Err (z, drop n xs) → n ≤ length xs → IsBytes (take n xs)
    → RejectsFew xs budget z (drop n xs)
few_complete xs budget z n e within bytes =
    elim (err_parts (length_at (codes "array") 4 xs) few_by z (drop n xs) e) [
      | inl r ↦ few_head_rejected (no_length (codes "array") 4 xs z (drop n xs) r)
      | inr g ↦ few_stopped xs g.rest budget z n g.value g.begun g.ended within bytes
    ]

pub few_leaf : IsLeaf few_at ReadsFew RejectsFew
few_leaf = record { means = few_means; again = few_again; is_complete = few_complete }

-- ---- the item

module _ {V : Type 0} (s : Format V) where
  no_item : (xs : List ℕ) (i : ℕ) (budget : Option ℕ) → ReadsHead 4 8 xs 1 i
      → NoneRead s.reads (drop i xs) budget → (v : Option V) (n c : ℕ)
      → ReadsMaybe s.reads xs v n c → CostFits c budget → ⊥
  no_item xs i budget head none None n c r fits = two_counts xs n i r.0 head
  no_item xs i budget head none (Some v) n c r fits = search (rules, head_one)

  no_few : (xs : List ℕ) (budget : Option ℕ) → NoneRead ReadsFew xs budget
      → (v : Option V) (n c : ℕ) → ReadsMaybe s.reads xs v n c → CostFits c budget → ⊥
  no_few xs budget none None n c r fits = none false n c r fits
  no_few xs budget none (Some v) n c r fits =
      none true r.before 0 (r.head, refl) (fits_zero budget)

module _ {V E : Type 0} (s : Format V) {a m : View} where
  pub maybe_head_err : {e : DecodeError E} → Decodes few_format a m (Err e)
      → Decodes (maybe_format s) a m (Err e)
  maybe_head_err d =
      decodes_exactly (err_after few_format (maybe_format s) (kept_alike a) (λ xs known. (
        xs,
        known,
        record {
          none = λ is none v. no_few s xs a.budget none v.0;
          rejects = λ z ys. maybe_head_rejected;
          begins = λ z ys. maybe_head_rejected;
        },
      )) (λ owned. refl) (λ takes. cc) (of_exact d))

  module _ {follows : Bool} (d : Decodes {E = E} few_format a m (Ok follows)) where
    pub maybe_none : follows ≡ false
        → Decodes {E = E} (maybe_format s) a m (Ok (record { 0 = None }))
    maybe_none none = ok (maybe_format s) d.moves.by d.progress (record {
      at = λ xs known.
          let p = d.sound.at xs known in
          record {
            count = p.count;
            cost = p.cost;
            read = subst (λ v. ReadsFew xs v p.count p.cost) none p.read;
            fits = p.fits;
            left = p.left;
          };
    })

    module _ (yes : follows ≡ true) {b : View} where
      pub maybe_some : {v : V} → Decodes {E = E} s m b (Ok v)
          → Decodes {E = E} (maybe_format s) a b (Ok (record { 0 = Some v }))
      maybe_some h = ok_after s (maybe_format s) d.moves.by (λ xs known.
          let p = d.sound.at xs known in
          let one = subst (λ w. ReadsFew xs w p.count p.cost) yes p.read in (
            drop p.count xs,
            p.left,
            λ n c r fits. record {
              count = p.count + n;
              cost = c;
              read = record {
                before = p.count;
                head = one.0;
                count = n;
                item = r;
                bytes = refl;
              };
              fits = fits;
              left = drop_more n p.count xs;
            },
          )) (λ some. omega (arith, d.progress refl, h.moves.by.bound)) h

      pub maybe_err : {e : DecodeError E} → Decodes s m b (Err e)
          → Decodes (maybe_format s) a b (Err e)
      maybe_err h = decodes_exactly (err_after s (maybe_format s) d.moves.by (λ xs known.
          let p = d.sound.at xs known in
          let one = subst (λ w. ReadsFew xs w p.count p.cost) yes p.read in (
            drop p.count xs,
            p.left,
            record {
              none = λ is none v. no_item s xs p.count a.budget one.0 none v.0;
              rejects = λ z ys. maybe_item_rejected p.count one.0;
              begins = λ z ys. maybe_item_rejected p.count one.0;
            },
          )) (λ owned. owned) (λ takes. takes) (of_exact h))
