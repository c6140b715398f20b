-- Calls of decoders whose items nest, one after another.
use Rattle.std.proofs.Common.{◌≡◌, ℕ, zero, suc, ◌+◌, ◌-◌, ◌≤◌, List, drop, Option, Some, None}
use Rattle.std.proofs.Common.{Result, Ok, Err, Bool, true, false, IsTrue, refl, sym, ap, ◌∙◌, subst}
use Rattle.std.proofs.Common.{arith, IfSome, IfOk, ◌≢◌, [], ◌∷◌, rules}
use Rattle.cbor4ii_rw.specs.{View.{IfKnown, View}, Reader.{KeepsAllButBudget, StepsIn, step_back}}
use Rattle.cbor4ii_rw.specs.declared.error.DecodeError.{DecodeError}
use Rattle.cbor4ii_rw.specs.declared.error.DecodeError.TheVariants.{OutOfMemory}
use Rattle.cbor4ii_items.specs.{Budget.CostFits, Decoding.{Sound, Rejects}, InputError.InputError}
use Rattle.cbor4ii_items.specs.InputError.{input_error_of, is_read, is_depth_overflow}
use Rattle.cbor4ii_items.specs.{InputError.depth_overflow, Moves.{Kept, Moves}}
use Rattle.cbor4ii_items.specs.{Head.break, Strings.{ReadsBreak, RejectsBreak}}
use Rattle.cbor4ii_items.specs.Laws.{Running.{kept_alike, no_failure}, Steps.moves_then}
use Rattle.cbor4ii_items.specs.Laws.Steps.{moves_err, kept_then, counted_none}
use Rattle.cbor4ii_items.specs.Laws.UnderStep.{step_again, step_unbound, moves_around, no_step}
use Rattle.cbor4ii_tree.specs.Basis.{Cost.{Budget, step_in}, InputError.{break_name, eof, Small}}
use Rattle.cbor4ii_tree.specs.Inner.Does.{Accepting, Does, DoesApart, DoesUnder, Spares, Lowers}
use Rattle.cbor4ii_tree.specs.Calls.Rejections.{Rejection}
use Rattle.cbor4ii_tree.proofs.skip_calls.Parts.{IsOther, after_break, other_byte}

-- Some calls went well: what was taken is reported by P.
pub record Reached (P : List ℕ → List ℕ → Type 0) (a m : View) : Type 0 where
  pub kept : Kept a m
  pub at : IfKnown a.known (λ xs. (ys : List ℕ) × (m.known ≡ Some ys) × P xs ys)

pub reached_start : (P : List ℕ → List ℕ → Type 0) (a : View) → ((xs : List ℕ) → P xs xs)
    → Reached P a a
reached_start P a p = record { kept = kept_alike a; at = λ xs known. (xs, known, p xs) }

pub reached_by : {V E : Type 0} {A : Accepting V} {S : Rejection} {a m : View} {v : V}
    → Does {E = E} A S a m (Ok v) → Reached (λ xs ys. A xs v ys) a m
reached_by d = record { kept = d.moves.by; at = d.ok }

pub reached_then : (P Q R : List ℕ → List ℕ → Type 0) {a m b : View} → ((xs ys zs : List ℕ)
    → P xs ys → Q ys zs → R xs zs) → Reached P a m → Reached Q m b → Reached R a b
reached_then P Q R f p q = record {
  kept = kept_then p.kept q.kept;
  at = λ xs known.
      let s = p.at xs known in
      let t = q.at s.0 s.1 in
      (t.0, t.1, f xs s.0 t.0 s.2 t.2);
}

pub reached_as : (P Q : List ℕ → List ℕ → Type 0) {a m : View}
    → ((xs ys : List ℕ) → P xs ys → Q xs ys) → Reached P a m → Reached Q a m
reached_as P Q f p =
    record { kept = p.kept; at = λ xs known. let s = p.at xs known in (s.0, s.1, f xs s.0 s.2) }

pub does_ok : {V E : Type 0} (A : Accepting V) (S : Rejection) {a b : View} {v : V}
    → Reached (λ xs ys. A xs v ys) a b → Does {E = E} A S a b (Ok v)
does_ok A S p = record { moves = record { by = p.kept; depth = λ e. refl }; ok = p.at; err = tt }

-- an error that says something of the bytes, in other words
error_as : (o : Option InputError) (P Q : InputError → List ℕ → Type 0) {new left : Option (List ℕ)}
    → left ≡ new → ((z : InputError) (rest : List ℕ) → P z rest → Q z rest) → IfSome o (λ z. (ys :
    List ℕ) × (new ≡ Some ys) × P z ys) → IfSome o (λ z. (ys : List ℕ) × (left ≡ Some ys) × Q z ys)
error_as None P Q same f h = tt
error_as (Some z) P Q same f h = (h.0, same ∙ h.1, f z h.0 h.2)

-- what is left to do was rejected
pub does_err : {U V E : Type 0} (P : List ℕ → List ℕ → Type 0) (A : Accepting U) (B : Accepting V)
    (S T : Rejection) {e : DecodeError E} {a m b : View}
    → ((xs ys : List ℕ) (z : InputError) (rest : List ℕ) → P xs ys → S ys z rest → T xs z rest)
    → Reached P a m → Does {V = U} A S m b (Err e) → Does {V = V} B T a b (Err e)
does_err P A B S T {e = e} g p d = record {
  moves = moves_then p.kept (moves_err d.moves);
  ok = tt;
  err = λ xs known. let s = p.at xs known in
      error_as (input_error_of e) (S s.0) (T xs) refl (λ z rest. g xs s.0 z rest s.2)
      (d.err s.0 s.1);
}

-- the answer of a call, with another value
abbrev pub with : {U V E : Type 0} → (U → V) → Result U (DecodeError E) → Result V (DecodeError E)
with f (Ok u) = Ok (f u)
with f (Err e) = Err e

-- what is left to do was tried
pub does_with : {U V E : Type 0} (f : U → V) (P : List ℕ → List ℕ → Type 0) (A : Accepting U)
    (B : Accepting V) (S T : Rejection) {r : Result U (DecodeError E)} {a m b : View}
    → ((xs ys zs : List ℕ) (u : U) → P xs ys → A ys u zs → B xs (f u) zs)
    → ((xs ys : List ℕ) (e : InputError) (rest : List ℕ) → P xs ys → S ys e rest → T xs e rest)
    → Reached P a m → Does A S m b r → Does B T a b (with f r)
does_with f P A B S T {r = Ok u} g h p d = search (rules, does_ok, reached_then, reached_by)
does_with f P A B S T {r = Err e} g h p d = does_err P A B S T h p d

pub does_after : {V E : Type 0} (P : List ℕ → List ℕ → Type 0) (A B : Accepting V)
    (S T : Rejection) {r : Result V (DecodeError E)} {a m b : View} → ((xs ys zs : List ℕ) (v : V)
    → P xs ys → A ys v zs → B xs v zs) → ((xs ys : List ℕ) (e : InputError) (rest : List ℕ)
    → P xs ys → S ys e rest → T xs e rest) → Reached P a m → Does A S m b r → Does B T a b r
does_after P A B S T {r = Ok v} f g p d = does_with (λ v. v) P A B S T f g p d
does_after P A B S T {r = Err e} f g p d = does_err P A B S T g p d

-- what was rejected, reported in other words
pub still_rejected : {U V E : Type 0} (A : Accepting U) (B : Accepting V) (S T : Rejection)
    {e : DecodeError E} {a b : View} → ((xs : List ℕ) (z : InputError) (rest : List ℕ) → S xs z rest
    → T xs z rest) → Does {V = U} A S a b (Err e) → Does {V = V} B T a b (Err e)
still_rejected A B S T {e = e} f d = record {
  moves = moves_err d.moves;
  ok = tt;
  err = λ xs known. error_as (input_error_of e) (S xs) (T xs) refl (f xs) (d.err xs known);
}

pub refused : {U V E : Type 0} {A : Accepting U} {B : Accepting V} {S : Rejection}
    {e : DecodeError E} {a b : View} → Does {V = U} A S a b (Err e) → Does {V = V} B S a b (Err e)
refused {A = A} {B = B} {S = S} d = still_rejected A B S S (λ xs z rest h. h) d

-- an error says this of the bytes
pub says : {o : Option InputError} {z : InputError} (P : InputError → Type 0) → o ≡ Some z → P z
    → IfSome o P
says P e h = subst (λ o. IfSome o P) (sym e) h

-- an error that speaks of the bytes; without a budget no step is lacking
pub does_reject_by : {V E : Type 0} (P : List ℕ → List ℕ → Type 0) (B : Accepting V) (T : Rejection)
    (z : InputError) {e : DecodeError E} {a b : View} → input_error_of e ≡ Some z
    → is_read e ≡ false → (a.budget ≡ None → is_depth_overflow e ≡ false)
    → ((xs ys : List ℕ) → P xs ys → T xs z ys) → Reached P a b → Does {V = V} B T a b (Err e)
does_reject_by P B T z {e = e} {a = a} {b = b} is read shallow f p = search (rules, no_failure, says)

pub does_reject : {V E : Type 0} (P : List ℕ → List ℕ → Type 0) (B : Accepting V) (T : Rejection)
    (z : InputError) {e : DecodeError E} {a b : View} → input_error_of e ≡ Some z
    → is_read e ≡ false → is_depth_overflow e ≡ false → ((xs ys : List ℕ) → P xs ys → T xs z ys)
    → Reached P a b → Does {V = V} B T a b (Err e)
does_reject P B T z says read shallow f p = does_reject_by P B T z says read (λ none. shallow) f p

-- ---- calls of the crate below

-- a decoding call that was rejected
pub does_rejects : {V E : Type 0} (A : Accepting V)
    (S : List ℕ → Option ℕ → InputError → List ℕ → Type 0) {e : DecodeError E} {a b : View}
    → Moves {V = V} a b (Err e) → Rejects S a b e → Does {V = V} A (λ xs. S xs a.budget) a b (Err e)
does_rejects A S moves s = record { moves = moves; ok = tt; err = s.at }

-- the same of another value, by what it is to fail there
pub call_rejects : {U V E : Type 0} (B : Accepting V) (S : List ℕ → Option ℕ → InputError → List ℕ
    → Type 0) (T : Rejection) {e : DecodeError E} {a c : View}
    → ((xs : List ℕ) (z : InputError) (rest : List ℕ) → S xs a.budget z rest → T xs z rest)
    → Moves {V = U} a c (Err e) → Rejects S a c e → Does {V = V} B T a c (Err e)
call_rejects {U = U} B S T {a = a} f moves s =
    still_rejected (λ xs (v : U) ys. Unit {0}) B (λ xs. S xs a.budget) T f
    (does_rejects _ S moves s)

-- a decoding call that went well
pub reached_sound : {V E : Type 0} (reads : List ℕ → V → ℕ → ℕ → Type 0) (P : List ℕ → List ℕ
    → Type 0) {v : V} {a b : View} → ((xs : List ℕ) (n c : ℕ) → CostFits c a.budget → reads xs v n c
    → P xs (drop n xs)) → Moves {E = E} a b (Ok v) → Sound reads a b v → Reached P a b
reached_sound reads P f moves s = record {
  kept = moves.by;
  at = λ xs known. let t = s.at xs known in
      (drop t.count xs, t.left, f xs t.count t.cost t.fits t.read);
}

-- ---- steps

pub steps_in : (old new : Option ℕ) → StepsIn old new true → step_in old ≡ Some new
steps_in None new h = ap Some (sym h)
steps_in (Some zero) new h = absurd (omega (arith, h.0))
steps_in (Some (suc left)) new h =
    let e : suc left - 1 ≡ left = omega arith in ap Some (sym (h.2 ∙ ap Some e))

-- ---- what moves the budget alone

pub keeps_alike : (a b : View) → b ≡ a → KeepsAllButBudget a b
keeps_alike a b same = search rules

pub keeps_then : {a b c : View} → KeepsAllButBudget a b → KeepsAllButBudget b c
    → KeepsAllButBudget a c
keeps_then p q = search rules

-- the same where bytes stand apart from the reader
module _ {t : Bool} {a b : View} where
  pub alike : (IsTrue t → b ≡ a) → IsTrue t → KeepsAllButBudget a b
  alike f apart = keeps_alike a b (f apart)

  pub stays_then : {c : View} → (IsTrue t → KeepsAllButBudget a b)
      → (IsTrue t → KeepsAllButBudget b c) → IsTrue t → KeepsAllButBudget a c
  stays_then f g apart = keeps_then (f apart) (g apart)

pub stays_put : {t : Bool} {a : View} → IsTrue t → KeepsAllButBudget a a
stays_put {a = a} apart = keeps_alike a a refl

-- a call between two moves of the budget alone
moves_between : {V E : Type 0} {r : Result V (DecodeError E)} {a b c d : View}
    → KeepsAllButBudget a b → KeepsAllButBudget c d → (a.budget ≡ None → b.budget ≡ None)
    → (c.budget ≡ b.budget → d.budget ≡ a.budget) → Moves b c r → Moves a d r
moves_between {r = r} inward outward unbound restored m = search (rules, moves_around)

pub does_around : {V E : Type 0} (A B : Accepting V) (S T : Rejection) {r : Result V
    (DecodeError E)}
    {a b c d : View} → ((xs ys : List ℕ) (v : V) → A xs v ys → B xs v ys)
    → ((xs : List ℕ) (e : InputError) (rest : List ℕ) → S xs e rest → T xs e rest)
    → KeepsAllButBudget a b → KeepsAllButBudget c d → (a.budget ≡ None → b.budget ≡ None)
    → (c.budget ≡ b.budget → d.budget ≡ a.budget) → Does A S b c r → Does B T a d r
does_around A B S T {r = Ok v} f g inward outward unbound restored w = search (rules, moves_between)
does_around A B S T {r = Err e} f g inward outward unbound restored w = record {
  moves = moves_between inward outward unbound restored w.moves;
  ok = tt;
  err = λ xs known. error_as (input_error_of e) (S xs) (T xs) outward.known (g xs)
      (w.err xs (inward.known ∙ known));
}

-- the same is said of it
pub does_between : {V E : Type 0} (A : Accepting V) (S : Rejection) {r : Result V (DecodeError E)}
    {a b c d : View} → KeepsAllButBudget a b → KeepsAllButBudget c d → (a.budget ≡ None → b.budget
    ≡ None) → (c.budget ≡ b.budget → d.budget ≡ a.budget) → Does A S b c r → Does A S a d r
does_between A S = does_around A A S S (λ xs ys v h. h) (λ xs e rest h. h)

-- a call under one step
pub does_stepped : {V E : Type 0} (A B : Accepting V) (S T : Rejection) {r : Result V
    (DecodeError E)} {a b c d : View} → ((xs ys : List ℕ) (v : V) → A xs v ys → B xs v ys)
    → ((xs : List ℕ) (e : InputError) (rest : List ℕ) → S xs e rest → T xs e rest)
    → StepsIn a.budget b.budget true → KeepsAllButBudget a b → Does A S b c r
    → d.budget ≡ step_back c.budget → KeepsAllButBudget c d → Does B T a d r
does_stepped A B S T {a = a} {b = b} f g takes inward w gives outward =
    does_around A B S T f g inward outward (λ none. step_unbound a.budget b.budget takes none)
    (λ same. gives ∙ (ap step_back same ∙ step_again a.budget b.budget takes)) w

pub kept_budget : (a b : View) → KeepsAllButBudget a b → b.budget ≡ a.budget → Kept a b
kept_budget a b k same = search (rules, counted_none)

-- no step is left
pub does_no_step : {V E : Type 0} (name : List ℕ) (A : Accepting V) (T : Rejection)
    {e : DecodeError E} {a b : View} → input_error_of e ≡ Some (depth_overflow name)
    → is_read e ≡ false → (a.budget ≡ Some 0 → (xs : List ℕ) → T xs (depth_overflow name) xs)
    → StepsIn a.budget b.budget false → KeepsAllButBudget a b → Does {V = V} A T a b (Err e)
does_no_step name A T {a = a} {b = b} is read f takes k =
    search (rules, no_step, does_reject_by, kept_budget)

-- there was no memory
pub does_no_memory : {V E : Type 0} (A : Accepting V) (S : Rejection) {e : DecodeError E}
    {a b : View} → e ≡ OutOfMemory → Kept a b → Does {V = V} A S a b (Err e)
does_no_memory {V = V} {E = E} A S {a = a} {b = b} is p = search rules

-- ---- what follows under the same budget

module _ {P : List ℕ → List ℕ → Type 0} {a m b : View} (p : Reached P a m) where
  -- it went well
  pub reached_on : (Q : Budget → List ℕ → List ℕ → Type 0) {R : List ℕ → List ℕ → Type 0}
      → ((xs ys zs : List ℕ) → P xs ys → Q a.budget ys zs → R xs zs) → Reached (Q m.budget) m b
      → Reached R a b
  reached_on Q {R = R} f q =
      reached_then P (Q m.budget) R
      (λ xs ys zs h s. f xs ys zs h (subst (λ o. Q o ys zs) p.kept.budget s)) p q

  -- it was tried
  pub does_on : {U V E : Type 0} (f : U → V) (A : Budget → Accepting U) {B : Accepting V}
      (S : Budget → Rejection) {T : Rejection} {r : Result U (DecodeError E)}
      → ((xs ys zs : List ℕ) (u : U) → P xs ys → A a.budget ys u zs → B xs (f u) zs)
      → ((xs ys : List ℕ) (z : InputError) (rest : List ℕ) → P xs ys → S a.budget ys z rest
      → T xs z rest) → DoesUnder A S m b r → Does B T a b (with f r)
  does_on f A {B = B} S {T = T} g h d =
      does_with f P (A m.budget) B (S m.budget) T
      (λ xs ys zs u k s. g xs ys zs u k (subst (λ o. A o ys u zs) p.kept.budget s))
      (λ xs ys z rest k s. h xs ys z rest k (subst (λ o. S o ys z rest) p.kept.budget s)) p d

  -- it was rejected
  pub stops_on : {U V E : Type 0} {A : Accepting U} {B : Accepting V} (S : Budget → Rejection)
      {T : Rejection} {e : DecodeError E}
      → ((xs ys : List ℕ) (z : InputError) (rest : List ℕ) → P xs ys → S a.budget ys z rest
      → T xs z rest) → Does {V = U} A (S m.budget) m b (Err e) → Does {V = V} B T a b (Err e)
  stops_on {A = A} {B = B} S {T = T} h d =
      does_err P A B (S m.budget) T
      (λ xs ys z rest k s. h xs ys z rest k (subst (λ o. S o ys z rest) p.kept.budget s)) p d

-- the value is known
pub does_value : {V E : Type 0} {A : Accepting V} {S : Rejection} {v w : V} {a b : View} → v ≡ w
    → Does {E = E} A S a b (Ok v) → Does {E = E} A S a b (Ok w)
does_value {E = E} {A = A} {S = S} {a = a} {b = b} is d =
    subst (λ v. Does {E = E} A S a b (Ok v)) is d

-- ---- over lent bytes, too

module _ {V E : Type 0} {A : Budget → Accepting V} {S : Budget → Rejection} {G : ℕ → ℕ → V → Type 0}
    {t : Bool} {o i a b : View} where
  -- by a call that moves no reader apart
  pub apart_leaf : {r : Result V (DecodeError E)} → DoesUnder A S a b r → Spares r
      → IfOk r (G a.bound b.bound) → (IsTrue t → i ≡ o) → DoesApart A S G t o i a b r
  apart_leaf d spares gains stays =
      record { does = d; spares = spares; gains = gains; stays = alike stays }

  -- the value is known
  pub apart_value : {v w : V} → v ≡ w → DoesApart {E = E} A S G t o i a b (Ok v)
      → DoesApart {E = E} A S G t o i a b (Ok w)
  apart_value is d = subst (λ v. DoesApart {E = E} A S G t o i a b (Ok v)) is d

-- what was tried ends a call
pub apart_with : {U V E : Type 0} (f : U → V) {A : Budget → Accepting U} {B : Budget → Accepting V}
    {S T : Budget → Rejection} {G : ℕ → ℕ → U → Type 0} {H : ℕ → ℕ → V → Type 0} {t : Bool}
    {o p i a m b c : View} {r : Result U (DecodeError E)} → DoesUnder B T a c (with f r)
    → IfOk (with f r) (H a.bound c.bound) → (IsTrue t → KeepsAllButBudget o p)
    → DoesApart A S G t p i m b r → DoesApart B T H t o i a c (with f r)
apart_with f {r = Ok u} does gains before d = search (rules, stays_then)
apart_with f {r = Err e} does gains before d = search (rules, stays_then)

-- a call that answers the same
pub apart_on : {V E : Type 0} {A B : Budget → Accepting V} {S T : Budget → Rejection}
    {G H : ℕ → ℕ → V → Type 0} {t : Bool} {o p i a m b : View} {r : Result V (DecodeError E)}
    → DoesUnder B T a b r → IfOk r (H a.bound b.bound) → (IsTrue t → KeepsAllButBudget o p)
    → DoesApart A S G t p i m b r → DoesApart B T H t o i a b r
apart_on does gains before d = search (rules, stays_then)

-- what is said of the bound, in other words
pub apart_gains : {V E : Type 0} {A : Budget → Accepting V} {S : Budget → Rejection} {G H : ℕ → ℕ
    → V
    → Type 0} {t : Bool} {o i a b : View} {r : Result V (DecodeError E)} → ((v : V) → G a.bound
    b.bound v → H a.bound b.bound v) → DoesApart A S G t o i a b r → DoesApart A S H t o i a b r
apart_gains {r = Ok v} f d = apart_on d.does (f v d.gains) stays_put d
apart_gains {r = Err e} f d = apart_on d.does tt stays_put d

pub may_stay : {V E : Type 0} (r : Result V (DecodeError E)) → IfOk r (λ v. Unit {0})
may_stay (Ok v) = tt
may_stay (Err e) = tt

-- it fell before
pub lowered : {V E : Type 0} (a : ℕ) {r : Result V (DecodeError E)} {m b : View} → m.bound + 1 ≤ a
    → Moves m b r → IfOk r (Lowers a b.bound)
lowered a {r = Ok v} fell moves = omega (arith, fell, moves.by.bound)
lowered a {r = Err e} fell moves = tt

-- ---- the calls of skipping, one after another

-- what came before, and no break after it
abbrev pub Before : (Budget → List ℕ → List ℕ → Type 0) → Budget → List ℕ → List ℕ → Type 0
Before P budget xs ys = P budget xs ys × (ys ≢ []) × ((bs : List ℕ) → ys ≡ break ∷ bs → ⊥)

module _ (P : Budget → List ℕ → List ℕ → Type 0) {a m : View} (p : Reached (P a.budget) a m) where
  -- a break
  pub broke : {E : Type 0} (Q : List ℕ → List ℕ → Type 0) {v : Bool} {b : View}
      → ((xs ys zs : List ℕ) → P a.budget xs ys → ys ≡ break ∷ zs → Q xs zs) → v ≡ true
      → Moves {E = E} m b (Ok v) → Sound ReadsBreak m b v → Reached Q a b
  broke Q f is moves s =
      reached_then (P a.budget)
      (λ xs ys. xs ≡ break ∷ ys) Q f p (reached_sound ReadsBreak (λ xs ys. xs ≡ break ∷ ys)
      (λ xs n c _ r. after_break xs n c (subst (λ z. ReadsBreak xs z n c) is r)) moves s)

  -- another byte
  pub other : {E : Type 0} {v : Bool} {b : View} → v ≡ false → Moves {E = E} m b (Ok v)
      → Sound ReadsBreak m b v → Reached (Before P a.budget) a b
  other is moves s =
      reached_then (P a.budget) IsOther _ (λ xs ys zs h o. (
        subst (P a.budget xs) (sym o.0) h,
        subst (λ ws. ws ≢ []) (sym o.0) o.1,
        subst (λ ws. (bs : List ℕ) → ws ≡ break ∷ bs → ⊥) (sym o.0) o.2,
      )) p (reached_sound ReadsBreak IsOther (λ xs n c _ r. other_byte xs n c (subst (λ z.
      ReadsBreak xs z n c) is r)) moves s)

  -- neither
  pub at_end : {U E : Type 0} (B : Accepting U) (T : Rejection) {e : DecodeError E} {b : View}
      → ((xs ys : List ℕ) → P a.budget xs ys → ys ≡ [] → T xs (eof break_name (Small 1)) [])
      → Moves {V = Bool} m b (Err e) → Rejects RejectsBreak m b e → Does {V = U} B T a b (Err e)
  at_end B T f moves s =
      does_err (P a.budget) _ B (λ xs. RejectsBreak xs m.budget) T (λ xs ys z rest h k. subst (λ y.
      T xs y rest) (sym k.1) (subst (T xs (eof break_name (Small 1))) (sym k.2) (f xs ys h k.0))) p
      (does_rejects (λ xs (_ : Bool) ys. Unit {0}) RejectsBreak moves s)
