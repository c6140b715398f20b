-- What a call that does what a program does answers.
use Rattle.std.proofs.Common.{inl, inr, ◌≡◌, ℕ, List, drop, take, Option, None, Some, Ok, Err, Bool}
use Rattle.std.proofs.Common.{true, false, refl, ap, IfSome, length, ◌+◌, ◌≤◌, arith, rules}
use Rattle.std.specs.Prelude.{MatchBool}
use Rattle.cbor4ii_rw.specs.View.{View}
use Rattle.cbor4ii_rw.specs.declared.error.DecodeError.{DecodeError}
use Rattle.cbor4ii_rw.specs.declared.error.DecodeError.TheVariants.{Read}
use Rattle.cbor4ii_items.specs.Head.{IsBytes}
use Rattle.cbor4ii_items.specs.Moves.{Kept, ReaderFailed, Moves}
use Rattle.cbor4ii_items.specs.InputError.{InputError, input_error_of, is_read}
use Rattle.cbor4ii_items.specs.Reading.{Reading, Runs}
use Rattle.cbor4ii_items.specs.Decoding.{IsExact, Reads, RejectsAt, Sound, NoneRead, Complete}
use Rattle.cbor4ii_items.specs.Decoding.{Rejects}
use Rattle.cbor4ii_items.specs.Budget.{CostFits}
use Rattle.std.proofs.lemmas.List.{length-drop}
use Rattle.cbor4ii_items.specs.Laws.Heads.{IsBytes-take}

pub fits_zero : (budget : Option ℕ) → CostFits 0 budget
fits_zero None = tt
fits_zero (Some n) = omega arith

pub same_some : {A : Type 0} (x y : A) (o : Option A) → o ≡ Some x → o ≡ Some y → x ≡ y
same_some x y o p q = cc

-- ---- the bytes that were passed

-- what stands in xs before its end ys are bytes
abbrev pub SeenAreBytes : List ℕ → List ℕ → Type 0
SeenAreBytes xs ys = (m : ℕ) → m + length ys ≤ length xs → IsBytes (take m xs)

pub seen_of : (xs ys : List ℕ) (n : ℕ) → n ≤ length xs → IsBytes (take n xs) → ys ≡ drop n xs
    → SeenAreBytes xs ys
seen_of xs ys n room bytes e =
    λ m h. IsBytes-take m n xs (omega (arith, h, room, ap length e, length-drop n xs)) bytes

-- a reading of v that fits, and the bytes after it
pub record Found {V : Type 0} (reads : Reads V) (budget : Option ℕ) (xs : List ℕ) (v : V)
    (ys : List ℕ) : Type 0 where
  pub count : ℕ
  pub cost : ℕ
  pub read : reads xs v count cost
  pub fits : CostFits cost budget
  pub left : ys ≡ drop count xs

-- ---- a value

pub sound_at : {V E : Type 0} {program : Reading V} {v : V} {a b : View} (reads : Reads V)
    → ((xs : List ℕ) (n : ℕ) → program xs ≡ Ok (v, drop n xs) → n ≤ length xs → IsBytes (take n xs)
    → Found reads a.budget xs v (drop n xs))
    → Runs {E = E} program a b (Ok v) → Sound reads a b v
sound_at {v = v} {b = b} reads means p = search (rules, same_some)

pub sound_by : {V E : Type 0} {program : Reading V} {v : V} {a b : View} (reads : Reads V)
    → ((xs ys : List ℕ) → program xs ≡ Ok (v, ys) → SeenAreBytes xs ys → Found reads a.budget xs v
    ys)
    → Runs {E = E} program a b (Ok v) → Sound reads a b v
sound_by reads means p = search (rules, sound_at, seen_of)

-- ---- an error

none_by : {V : Type 0} (program : Reading V) (reads : Reads V) (o : Option InputError) (xs : List ℕ)
    (budget : Option ℕ) (left : Option (List ℕ))
    → ((v : V) (n c : ℕ) → reads xs v n c → CostFits c budget → program xs ≡ Ok (v, drop n xs))
    → IfSome o (λ z. (ys : List ℕ) × (left ≡ Some ys) × (program xs ≡ Err (z, ys)))
    → IfSome o (λ z. NoneRead reads xs budget)
none_by program reads None xs budget left again h = tt
none_by program reads (Some z) xs budget left again h =
    λ v n c r fits. let f = again v n c r fits in let g = h.2 in cc

pub complete_by : {V E : Type 0} {program : Reading V} {e : DecodeError E} {a b : View}
    (reads : Reads V) → ((xs : List ℕ) (v : V) (n c : ℕ) → reads xs v n c → CostFits c a.budget
    → program xs ≡ Ok (v, drop n xs))
    → Runs program a b (Err e) → Complete reads a e
complete_by {program = program} {e = e} {a = a} {b = b} reads again p = record {
  at = λ xs known.
      none_by program reads (input_error_of e) xs a.budget b.known (again xs) (p.answers xs known);
}

pub not_read : {E : Type 0} (e : DecodeError E) (z : InputError) → input_error_of e ≡ Some z
    → is_read e ≡ false
not_read (Read x) z h = cc
not_read e z h = refl

pub kept_of : (t : Bool) (a b : View) → t ≡ false → MatchBool t (ReaderFailed a b) (Kept a b) →
    Kept a b
kept_of true a b e k = cc
kept_of false a b e k = k

stopped_by : {V E : Type 0} (program : Reading V) (e : DecodeError E) (a b : View)
    (rejects : RejectsAt)
    (xs : List ℕ) → a.known ≡ Some xs
    → ((z : InputError) (n : ℕ) → program xs ≡ Err (z, drop n xs) → n ≤ length xs → IsBytes
    (take n xs)
    → rejects xs a.budget z (drop n xs))
    → Moves {V = V} a b (Err e) → (o : Option InputError) → input_error_of e ≡ o
    → IfSome o (λ z. (ys : List ℕ) × (b.known ≡ Some ys) × (program xs ≡ Err (z, ys)))
    → IfSome o (λ z. (ys : List ℕ) × (b.known ≡ Some ys) × rejects xs a.budget z ys)
stopped_by program e a b rejects xs known means moves None says h = tt
stopped_by program e a b rejects xs known means moves (Some z) says h =
    search (rules, kept_of, not_read, same_some)

pub rejects_at : {V E : Type 0} {program : Reading V} {e : DecodeError E} {a b : View}
    (rejects : RejectsAt)
    → ((xs : List ℕ) (z : InputError) (n : ℕ) → program xs ≡ Err (z, drop n xs) → n ≤ length xs
    → IsBytes (take n xs) → rejects xs a.budget z (drop n xs))
    → Runs {V = V} program a b (Err e) → Rejects rejects a b e
rejects_at {program = program} {e = e} {a = a} {b = b} rejects means p =
    record {
      at = λ xs known. stopped_by program e a b rejects xs known (means xs) p.moves
          (input_error_of e) refl (p.answers xs known);
    }

pub rejects_by : {V E : Type 0} {program : Reading V} {e : DecodeError E} {a b : View}
    (rejects : RejectsAt) → ((xs : List ℕ) (z : InputError) (ys : List ℕ) → program xs ≡ Err (z, ys)
    → SeenAreBytes xs ys → rejects xs a.budget z ys)
    → Runs {V = V} program a b (Err e) → Rejects rejects a b e
rejects_by rejects means p = search (rules, rejects_at, seen_of)

-- ---- one type as another

-- what holds where an error speaks of the bytes
pub if_some : (o : Option InputError) {P Q : Type 0} → (P → Q) → IfSome o (λ z. P) → IfSome o
    (λ z. Q)
if_some None f h = tt
if_some (Some z) f h = f h

-- what holds whatever is rejected
pub whatever_error : {Q : Type 0} (o : Option InputError) → Q → IfSome o (λ z. Q)
whatever_error None q = tt
whatever_error (Some z) q = q

pub complete_as : {U V E : Type 0} {e : DecodeError E} {a : View} (f : Reads U) (g : Reads V)
    → ((xs : List ℕ) (budget : Option ℕ) → NoneRead f xs budget → NoneRead g xs budget)
    → Complete f a e → Complete g a e
complete_as {e = e} {a = a} f g none p =
    record { at = λ xs known. if_some (input_error_of e) (none xs a.budget) (p.at xs known) }

-- ---- where acceptance is exact

-- it stays so where the reader was kept
pub exact_kept : (owned : Bool) (a b : View) (xs : List ℕ) → a.known ≡ Some xs → Kept a b
    → IsExact owned a → IsExact owned b
exact_kept owned a b xs known kept (inl e) = inl e
exact_kept owned a b xs known kept (inr e) = search (rules, inr, length-drop)
