-- Optional and tagged items, one part after another.
use Rattle.std.proofs.Common.{◌≡◌, ◌≢◌, ℕ, ◌+◌, ◌≤◌, inl, inr, List, [], ◌∷◌, length, take, drop}
use Rattle.std.proofs.Common.{Option, Some, None, Ok, Err, true, false, refl, sym, ap, subst}
use Rattle.std.proofs.Common.{arith, rules}
use Rattle.std.specs.Prelude.{codes}
use Rattle.cbor4ii_rw.specs.View.{View, IfKnown}
use Rattle.cbor4ii_rw.specs.declared.error.DecodeError.{DecodeError}
use Rattle.cbor4ii_items.specs.InputError.{InputError, is_out_of_memory}
use Rattle.cbor4ii_items.specs.Reading.{Runs, peek_at}
use Rattle.cbor4ii_items.specs.Decoding.{Reads, RejectsAt, NoneRead, Format, Decodes}
use Rattle.cbor4ii_items.specs.Containers.{BeginsNull, ReadsOption, RejectsOption, RejectsAfterTag}
use Rattle.cbor4ii_items.specs.Laws.Calls.{IsRejected, err_of, ok_after, err_after, of_exact}
use Rattle.cbor4ii_items.specs.Laws.Calls.{decodes_exactly}
use Rattle.cbor4ii_items.specs.Laws.Containers.{option_format, not_null, no_option, tag_format}
use Rattle.cbor4ii_items.specs.Laws.Outcome.{same_input_error}
use Rattle.cbor4ii_items.specs.Laws.Running.{peek_byte, kept_alike}
use Rattle.cbor4ii_items.specs.declared.types.Tag.{Tag}
use Rattle.cbor4ii_items.specs.Heads.{ReadsHead}
use Rattle.cbor4ii_items.specs.Numbers.{argument_format}
use Rattle.cbor4ii_items.specs.Laws.Answering.{fits_zero}
use Rattle.cbor4ii_items.specs.Laws.Prefixes.{drop_more}
use Rattle.cbor4ii_items.specs.Laws.Heads.{head_one}

-- ---- the byte that was looked at

-- what a call saw of the next byte, which stayed
pub record Saw (a m : View) (b : ℕ) : Type 0 where
  pub first : IfKnown a.known (λ xs. (m.known ≡ Some xs) × (take 1 xs ≡ b ∷ []) × (1 ≤ length xs))
  pub budget : m.budget ≡ a.budget

first_of : (b : ℕ) (rest xs : List ℕ) → xs ≡ b ∷ rest → (take 1 xs ≡ b ∷ []) × (1 ≤ length xs)
first_of b rest [] e = cc
first_of b rest (x ∷ xs) e = let f : x ≡ b = cc in (ap (λ z. z ∷ []) f, omega arith)

pub saw : {E : Type 0} (name : List ℕ) (expect b : ℕ) {a m : View}
    → Runs {E = E} (peek_at name expect) a m (Ok b) → Saw a m b
saw name expect b p = search (rules, peek_byte)

-- ---- an item or none

no_bytes : {V : Type 0} (reads : Reads V) (budget : Option ℕ)
    → NoneRead (ReadsOption reads) [] budget
no_bytes reads budget None n c r fits = elim r.0 [ inl e ↦ cc | inr e ↦ cc ]
no_bytes reads budget (Some v) n c r fits = absurd (omega (arith, r.1))

rejected_end : {V : Type 0} (s : Format V) (xs : List ℕ) (budget : Option ℕ) (z : InputError)
    (ys : List ℕ) → peek_at (codes "option") 1 xs ≡ Err (z, ys)
    → IsRejected true (option_format s) xs budget z ys
rejected_end s (x ∷ xs) budget z ys e = cc
rejected_end s [] budget z ys e = search (rules, same_input_error, no_bytes)

rejects_some : (rejects : RejectsAt) (xs : List ℕ) (budget : Option ℕ) (z : InputError)
    (ys : List ℕ)
    → 1 ≤ length xs → (BeginsNull xs → ⊥) → rejects xs budget z ys
    → RejectsOption rejects xs budget z ys
rejects_some rejects [] budget z ys n null h = absurd (omega arith)
rejects_some rejects (x ∷ xs) budget z ys n null h = (null, h)

module _ {V E : Type 0} (s : Format V) {a m : View} where
  pub option_end : {e : DecodeError E} → Runs {V = ℕ} (peek_at (codes "option") 1) a m (Err e)
      → is_out_of_memory e ≡ false → Decodes (option_format s) a m (Err e)
  option_end p memory =
      decodes_exactly (err_of (option_format s) p memory (λ xs. rejected_end s xs a.budget))

  module _ {b : View} {first : ℕ} (p : Runs {E = E} (peek_at (codes "option") 1) a m (Ok first))
      (not_null_byte : first ≢ 0xf6) (not_undefined : first ≢ 0xf7) where
    pub option_some : {v : V} → Decodes {E = E} s m b (Ok v)
        → Decodes {E = E} (option_format s) a b (Ok (Some v))
    option_some d = ok_after s (option_format s) p.moves.by (λ xs known.
        let f = (saw _ _ _ p).first xs known in (
          xs,
          f.0,
          λ n c r fits. record {
            count = n;
            cost = c;
            read = (not_null xs first f.1 not_null_byte not_undefined, f.2, r);
            fits = fits;
            left = refl;
          },
        )) (λ some. omega (arith, d.progress some, p.moves.by.bound)) d

    pub option_err : {e : DecodeError E} → Decodes s m b (Err e)
        → Decodes (option_format s) a b (Err e)
    option_err d = decodes_exactly (err_after s (option_format s) p.moves.by (λ xs known.
        let f = (saw _ _ _ p).first xs known in
        let other = not_null xs first f.1 not_null_byte not_undefined in (
          xs,
          f.0,
          record {
            none = λ is. no_option s.reads xs a.budget a.budget refl other;
            rejects = λ z ys. rejects_some s.rejects xs a.budget z ys f.2 other;
            begins = λ z ys. rejects_some s.begins xs a.budget z ys f.2 other;
          },
        )) (λ owned. owned) (λ takes. takes) (of_exact d))

-- ---- a tagged item

module _ {V : Type 0} (s : Format V) where
  no_tag : (xs : List ℕ) (k n : ℕ) (budget : Option ℕ) → ReadsHead 6 8 xs k n
      → NoneRead s.reads (drop n xs) budget → NoneRead (tag_format s).reads xs budget
  no_tag xs k n budget head none t m c q fits = search (rules, head_one)

module _ {V E : Type 0} (s : Format V) {a m : View} where
  pub tag_head_err : {e : DecodeError E}
      → Decodes (argument_format (codes "tag") 6 8) a m (Err e)
      → Decodes (tag_format s) a m (Err e)
  tag_head_err d =
      decodes_exactly (err_after (argument_format (codes "tag") 6 8) (tag_format s) (kept_alike a)
      (λ xs known. (
        xs,
        known,
        record {
          none = λ is none t n c q fits. none t.0 q.before 0 (q.head, refl) (fits_zero a.budget);
          rejects = λ z ys. inl;
          begins = λ z ys. inl;
        },
      )) (λ owned. refl) (λ takes. cc) (of_exact d))

  module _ {b : View} {k : ℕ}
      (d : Decodes {E = E} (argument_format (codes "tag") 6 8) a m (Ok k)) where
    pub tag_ok : {v : V} {t : Tag V} → t.0 ≡ k → t.1 ≡ v → Decodes {E = E} s m b (Ok v)
        → Decodes {E = E} (tag_format s) a b (Ok t)
    tag_ok {t = t} number item h = ok_after s (tag_format s) d.moves.by (λ xs known.
        let p = d.sound.at xs known in (
          drop p.count xs,
          p.left,
          λ n c r fits. record {
            count = p.count + n;
            cost = c;
            read = record {
              before = p.count;
              head = subst (λ j. ReadsHead 6 8 xs j p.count) (sym number) p.read.0;
              count = n;
              item = subst (λ v. s.reads (drop p.count xs) v n c) (sym item) r;
              bytes = refl;
            };
            fits = fits;
            left = drop_more n p.count xs;
          },
        )) (λ some. omega (arith, d.progress refl, h.moves.by.bound)) h

    pub tag_err : {e : DecodeError E} → Decodes s m b (Err e)
        → Decodes (tag_format s) a b (Err e)
    tag_err h = decodes_exactly (err_after s (tag_format s) d.moves.by (λ xs known.
        let p = d.sound.at xs known in
        let stop : (rejects : RejectsAt) (z : InputError) (ys : List ℕ)
        → rejects (drop p.count xs) a.budget z ys → RejectsAfterTag rejects xs a.budget z ys =
        λ rejects z ys f. record { number = k; before = p.count; head = p.read.0; item = f } in (
          drop p.count xs,
          p.left,
          record {
            none = λ is. no_tag s xs k p.count a.budget p.read.0;
            rejects = λ z ys f. inr (stop s.rejects z ys f);
            begins = λ z ys f. inr (stop s.begins z ys f);
          },
        )) (λ owned. owned) (λ takes. takes) (of_exact h))
