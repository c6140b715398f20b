-- How a value of several parts is rejected.
use Rattle.std.proofs.Common.{◌≡◌, ◌≢◌, ℕ, List, [], ◌∷◌, take, Option, Some, None, Err, Bool}
use Rattle.std.proofs.Common.{true, false, refl, subst, IfSome, rules}
use Rattle.std.specs.Prelude.{IsTrue, codes}
use Rattle.cbor4ii_rw.specs.View.{View}
use Rattle.cbor4ii_rw.specs.declared.error.DecodeError.{DecodeError}
use Rattle.cbor4ii_items.specs.Containers.{RejectsOption}
use Rattle.cbor4ii_items.specs.Decoding.{RejectsAt, Rejects}
use Rattle.cbor4ii_items.specs.Moves.{Moves}
use Rattle.cbor4ii_items.specs.Next.{RejectsNext}
use Rattle.cbor4ii_items.specs.InputError.{InputError, input_error_of}
use Rattle.cbor4ii_items.specs.Laws.Containers.{not_null}
use Rattle.cbor4ii_items.specs.Laws.Calls.{rejects_as}
use Rattle.cbor4ii_items.specs.Laws.Answering.{not_read, kept_of}
use Rattle.cbor4ii.specs.Typed.{not_exact, unsaid_rejects, rejects_if_known}
use Rattle.cbor4ii.proofs.Looking.{Saw}
use Rattle.cbor4ii.proofs.Stopped.{stopped_as}

-- an error of which no more is asked than that an end of the bytes is left
left_by : {V E : Type 0} (e : DecodeError E) (a b : View) (Q : Type 0) → Moves {V = V} a b (Err e)
    → (xs : List ℕ) → a.known ≡ Some xs → (o : Option InputError) → input_error_of e ≡ o → Q
    → IfSome o (λ z. (ys : List ℕ) × (b.known ≡ Some ys) × Q)
left_by e a b Q m xs known None says q = tt
left_by e a b Q m xs known (Some z) says q = search (rules, kept_of, not_read)

pub unsaid_left : {V E : Type 0} {e : DecodeError E} {a b : View} → Moves {V = V} a b (Err e)
    → Rejects unsaid_rejects a b e
unsaid_left {e = e} {a = a} {b = b} m =
    record { at = λ xs known. left_by e a b (Unit {0}) m xs known (input_error_of e) refl tt }

-- ---- a part

-- what the part's type says of it, where it is exact
pub said_left : {V E : Type 0} (exact : Bool) (rejects : RejectsAt) {e : DecodeError E} {a b : View}
    → Moves {V = V} a b (Err e) → (IsTrue exact → Rejects rejects a b e)
    → Rejects (rejects_if_known exact rejects) a b e
said_left true rejects m s = stopped_as rejects (rejects_if_known true rejects)
    (λ xs budget z ys h is. h)
    (s refl)
said_left false rejects m s = search (rules, stopped_as, not_exact, unsaid_left)

-- ---- a value that may be absent

some_at : (rejects : RejectsAt) (b : ℕ) (xs : List ℕ) (budget : Option ℕ) (z : InputError)
    (ys : List ℕ)
    → take 1 xs ≡ b ∷ [] → b ≢ 0xf6 → b ≢ 0xf7 → rejects xs budget z ys
    → RejectsOption rejects xs budget z ys
some_at rejects b [] budget z ys e p q h = cc
some_at rejects b (x ∷ xs) budget z ys e p q h = (not_null (x ∷ xs) b e p q, h)

-- after the byte that was seen
pub option_rejects_if : {E : Type 0} (rejects : RejectsAt) {e : DecodeError E} {a m b :
    View} {first : ℕ}
    → Saw a m first → first ≢ 0xf6 → first ≢ 0xf7
    → ((xs : List ℕ) → a.known ≡ Some xs → Rejects rejects m b e)
    → Rejects (RejectsOption rejects) a b e
option_rejects_if rejects {e = e} {a = a} {m = m} {b = b} {first = first} seen p q s = record {
  at = λ xs known.
      let f = seen.first xs known in
      rejects_as (input_error_of e) b.known (rejects xs m.budget)
      (RejectsOption rejects xs a.budget) (λ z ys h.
      some_at rejects first xs a.budget z ys f.1 p q (subst (λ k. rejects xs k z ys) seen.budget h))
      ((s xs known).at xs f.0);
}

pub option_rejects : {E : Type 0} (rejects : RejectsAt) {e : DecodeError E} {a m b :
    View} {first : ℕ}
    → Saw a m first → first ≢ 0xf6 → first ≢ 0xf7 → Rejects rejects m b e
    → Rejects (RejectsOption rejects) a b e
option_rejects rejects seen p q s = option_rejects_if rejects seen p q (λ xs known. s)

none_at : (rejects : RejectsAt) (xs : List ℕ) (budget : Option ℕ) (z : InputError) (ys : List ℕ)
    → RejectsNext (codes "option") xs budget z ys → RejectsOption rejects xs budget z ys
none_at rejects [] budget z ys h = (h.1, h.2)
none_at rejects (x ∷ xs) budget z ys h = let no = h.0 in cc

pub option_ended : {E : Type 0} (rejects : RejectsAt) {e : DecodeError E} {a b : View}
    → Rejects (RejectsNext (codes "option")) a b e → Rejects (RejectsOption rejects) a b e
option_ended rejects s = stopped_as (RejectsNext (codes "option")) (RejectsOption rejects)
    (none_at rejects) s
