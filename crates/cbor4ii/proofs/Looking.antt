-- The byte that comes next, looked at and then taken.
use Rattle.std.proofs.Common.{◌≡◌, ◌≢◌, ◌⊎◌, inl, inr, ℕ, ◌<◌, ◌≤◌, List, [], ◌∷◌, length, take}
use Rattle.std.proofs.Common.{drop, Option, Some, None, Ok, refl, ap, ◌∙◌, subst, arith}
use Rattle.std.specs.Prelude.{codes}
use Rattle.cbor4ii_rw.specs.View.{View, IfKnown}
use Rattle.cbor4ii_rw.specs.Reader.{Advances}
use Rattle.cbor4ii_rw.specs.declared.error.DecodeError.{DecodeError}
use Rattle.cbor4ii_items.specs.InputError.{input_error_of}
use Rattle.cbor4ii_items.specs.Moves.{Kept, Moves}
use Rattle.cbor4ii_items.specs.Reading.{Runs, peek_at}
use Rattle.cbor4ii_items.specs.Next.{ReadsNext}
use Rattle.cbor4ii_items.specs.Decoding.{Reads, Sound, NoneRead, Complete}
use Rattle.cbor4ii_items.specs.Budget.{CostFits}
use Rattle.cbor4ii_items.specs.Containers.{BeginsNull, ReadsOption}
use Rattle.cbor4ii_items.specs.Laws.Answering.{fits_zero, if_some, complete_as}
use Rattle.cbor4ii_items.specs.Laws.Running.{kept_taken}
use Rattle.cbor4ii_items.specs.Laws.Containers.{not_null, no_option}
use Rattle.cbor4ii_items.specs.Laws.Sequences.{one_byte}

peeks : (name : List ℕ) (b : ℕ) (xs : List ℕ) → take 1 xs ≡ b ∷ [] → peek_at name 1 xs ≡ Ok (b, xs)
peeks name b [] e = cc
peeks name b (x ∷ xs) e = let is : x ≡ b = cc in ap (λ z. Ok (z, x ∷ xs)) is

next_runs : {E : Type 0} (name : List ℕ) {b : ℕ} {a m : View} → Moves {E = E} a m (Ok b)
    → Sound ReadsNext a m b → Runs {E = E} (peek_at name 1) a m (Ok b)
next_runs name {b = b} m s = record {
  moves = m;
  answers = λ xs known. (let p = s.at xs known in
      (xs, p.left ∙ ap (λ n. Some (drop n xs)) p.read.1, peeks name b xs p.read.0));
}

-- it was taken
pub kept_next : {E : Type 0} {b : ℕ} {a m c : View} → Moves {E = E} a m (Ok b)
    → Sound ReadsNext a m b → b < 256 → Advances 1 m c → Kept a c
kept_next m s byte adv = kept_taken (next_runs (codes "") m s) byte adv

-- what a call saw of the next byte, which stayed
pub record Saw (a m : View) (b : ℕ) : Type 0 where
  pub first : IfKnown a.known (λ xs. (m.known ≡ Some xs) × (take 1 xs ≡ b ∷ []) × (1 ≤ length xs))
  pub budget : m.budget ≡ a.budget

pub saw : {E : Type 0} {b : ℕ} {a m : View} → Moves {E = E} a m (Ok b) → Sound ReadsNext a m b
    → Saw a m b
saw {b = b} m s = record {
  first = λ xs known. (let p = s.at xs known in
      (p.left ∙ ap (λ n. Some (drop n xs)) p.read.1, p.read.0, one_byte xs b p.read.0));
  budget = m.by.budget;
}

-- a byte that was seen, and then taken
pub taken_sound : {V : Type 0} {reads : Reads V} {a m c : View} {b : ℕ} {v : V} → Saw a m b
    → Advances 1 m c → ((xs : List ℕ) → take 1 xs ≡ b ∷ [] → reads xs v 1 0) → Sound reads a c v
taken_sound {a = a} s adv read = record {
  at = λ xs known. (let f = s.first xs known in record {
    count = 1;
    cost = 0;
    read = read xs f.1;
    fits = fits_zero a.budget;
    left = adv.known xs f.0;
  });
}

-- and one that stayed
pub seen_sound : {V : Type 0} {reads : Reads V} {a m : View} {b : ℕ} {v : V} → Saw a m b
    → ((xs : List ℕ) → take 1 xs ≡ b ∷ [] → 1 ≤ length xs → reads xs v 0 0) → Sound reads a m v
seen_sound {a = a} s read = record {
  at = λ xs known. (let f = s.first xs known in record {
    count = 0;
    cost = 0;
    read = read xs f.1 f.2;
    fits = fits_zero a.budget;
    left = f.0;
  });
}

-- ---- a value or none

pub some_sound : {V : Type 0} (reads : Reads V) {a m b : View} {v : V} {first : ℕ} → Saw a m first
    → first ≢ 0xf6 → first ≢ 0xf7 → Sound reads m b v → Sound (ReadsOption reads) a b (Some v)
some_sound reads {first = first} s p q h = record {
  at = λ xs known.
      let f = s.first xs known in
      let t = h.at xs f.0 in
      record {
        count = t.count;
        cost = t.cost;
        read = (not_null xs first f.1 p q, f.2, t.read);
        fits = subst (CostFits t.cost) s.budget t.fits;
        left = t.left;
      };
}

pub begins_null : (xs : List ℕ) (b : ℕ) → take 1 xs ≡ b ∷ [] → (b ≡ 0xf6) ⊎ (b ≡ 0xf7)
    → BeginsNull xs
begins_null xs b e (inl is) = inl (e ∙ ap (λ z. z ∷ []) is)
begins_null xs b e (inr is) = inr (e ∙ ap (λ z. z ∷ []) is)

pub null_sound : {V : Type 0} (reads : Reads V) {a m c : View} {b : ℕ} → Saw a m b
    → (b ≡ 0xf6) ⊎ (b ≡ 0xf7) → Advances 1 m c → Sound (ReadsOption reads) a c None
null_sound reads {b = b} s is adv =
    taken_sound s adv (λ xs e. (begins_null xs b e is, refl, refl))

pub some_complete : {V E : Type 0} (reads : Reads V) {a m : View} {e : DecodeError E} {first : ℕ}
    → Saw a m first → first ≢ 0xf6 → first ≢ 0xf7
    → ((xs : List ℕ) → a.known ≡ Some xs → Complete reads m e) → Complete (ReadsOption reads) a e
some_complete reads {a = a} {m = m} {e = e} {first = first} s p q h = record {
  at = λ xs known.
      let f = s.first xs known in
      if_some (input_error_of e)
      (no_option reads xs m.budget a.budget s.budget (not_null xs first f.1 p q))
      ((h xs known).at xs f.0);
}

-- ---- no byte

none_first : (xs : List ℕ) (budget : Option ℕ) → NoneRead ReadsNext xs budget → 1 ≤ length xs → ⊥
none_first [] budget none some = omega (arith, some)
none_first (x ∷ xs) budget none some = none x 0 0 (refl, refl, refl) (fits_zero budget)

pub none_begins : (xs : List ℕ) (b : ℕ) (budget : Option ℕ) → NoneRead ReadsNext xs budget
    → take 1 xs ≡ b ∷ [] → ⊥
none_begins xs b budget none e = none b 0 0 (e, refl, refl) (fits_zero budget)

none_option : {V : Type 0} (reads : Reads V) (xs : List ℕ) (budget : Option ℕ)
    → NoneRead ReadsNext xs budget → NoneRead (ReadsOption reads) xs budget
none_option reads xs budget none None n c r fits = elim r.0
    [ inl e ↦ none_begins xs 0xf6 budget none e | inr e ↦ none_begins xs 0xf7 budget none e ]
none_option reads xs budget none (Some v) n c r fits = none_first xs budget none r.1

pub option_complete : {V E : Type 0} (reads : Reads V) {a : View} {e : DecodeError E}
    → Complete ReadsNext a e → Complete (ReadsOption reads) a e
option_complete reads s = complete_as ReadsNext (ReadsOption reads) (none_option reads) s
