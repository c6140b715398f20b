-- A call that does what a program does, after another one.
use Rattle.std.proofs.Common.{◌≡◌, ◌≢◌, ℕ, ◌+◌, ◌<◌, List, [], ◌∷◌, length, get_or, drop, Option}
use Rattle.std.proofs.Common.{Some, None, Result, Ok, Err, Bool, true, false, refl, sym, ap, ◌∙◌}
use Rattle.std.proofs.Common.{subst, arith, IfSome, rules}
use Rattle.std.specs.Prelude.{MatchBool, MatchOption}
use denote.Ref.{Bor}
use Rattle.cbor4ii_rw.specs.View.{View, IfKnown}
use Rattle.cbor4ii_rw.specs.Reader.{Shows, ReaderFails, Advances, IsPrefix, counts}
use Rattle.cbor4ii_rw.specs.declared.error.DecodeError.{DecodeError}
use Rattle.cbor4ii_rw.specs.declared.error.DecodeError.TheVariants.{Eof}
use Rattle.cbor4ii_rw.specs.declared.error.Len.TheVariants.{Small}
use Rattle.cbor4ii_items.specs.InputError.{InputError, input_error_of, is_read, is_depth_overflow}
use Rattle.cbor4ii_items.specs.InputError.{eof}
use Rattle.cbor4ii_items.specs.Moves.{Took, Kept, ReaderFailed}
use Rattle.cbor4ii_items.specs.Reading.{Reading, give, reject, go_on, ◌>=>◌, peek_at, byte_at}
use Rattle.cbor4ii_items.specs.Reading.{AnswersAs, Runs, Reaches}
use Rattle.cbor4ii_items.specs.Laws.Outcome.{same_value}
use Rattle.cbor4ii_items.specs.Laws.Steps.{moves_then, moves_err, kept_then, counted_none}
use Rattle.cbor4ii_items.specs.Laws.Steps.{counts_more}

-- ---- one program after another

pub as_of : {V E : Type 0} (p q : Result (V × List ℕ) (InputError × List ℕ)) (new : Option (List ℕ))
    (r : Result V (DecodeError E)) → p ≡ q → AnswersAs q new r → AnswersAs p new r
as_of p q new r e h = subst (λ z. AnswersAs z new r) (sym e) h

-- a call is that of an equal program
pub runs_as : {V E : Type 0} {f g : Reading V} {a b : View} {r : Result V (DecodeError E)} → f ≡ g
    → Runs g a b r → Runs f a b r
runs_as {a = a} {b = b} {r = r} e h = subst (λ p. Runs p a b r) (sym e) h

-- after a value of the first call, the answer is that of the second
pub runs_then : {U V E : Type 0} {f : Reading U} (g : U → Reading V) {a m b : View} {u : U}
    {r : Result V (DecodeError E)} → Runs {E = E} f a m (Ok u) → Runs (g u) m b r
    → Runs (f >=> g) a b r
runs_then {f = f} g {b = b} {u = u} {r = r} p q = search (rules, moves_then, as_of)

pub rejected_then : {U V : Type 0} (o : Option InputError)
    (outcome : Result (U × List ℕ) (InputError × List ℕ)) (g : U → Reading V)
    (new : Option (List ℕ))
    → IfSome o (λ z. (ys : List ℕ) × (new ≡ Some ys) × (outcome ≡ Err (z, ys)))
    → IfSome o (λ z. (ys : List ℕ) × (new ≡ Some ys) × (go_on outcome g ≡ Err (z, ys)))
rejected_then None outcome g new h = tt
rejected_then (Some z) outcome g new h = (h.0, h.1, ap (λ r. go_on r g) h.2)

-- an error of the first call is the answer of both
pub runs_err : {U V E : Type 0} {f : Reading U} (g : U → Reading V) {a m : View} {e : DecodeError E}
    → Runs {V = U} f a m (Err e) → Runs {V = V} (f >=> g) a m (Err e)
runs_err {f = f} g {m = m} {e = e} p = search (rules, moves_err, rejected_then)

-- ---- nothing is read

pub kept_alike : (a : View) → Kept a a
kept_alike a = search (rules, counted_none)

pub runs_give : {V E : Type 0} (v : V) (a : View) → Runs {E = E} (give v) a a (Ok v)
runs_give v a = search (rules, kept_alike)

pub no_failure : (t : Bool) (a b : View) → t ≡ false → Kept a b → MatchBool t (ReaderFailed a b)
    (Kept a b)
no_failure true a b e k = cc
no_failure false a b e k = k

rejected_as : {V : Type 0} (o : Option InputError) (z : InputError)
    (outcome : Result (V × List ℕ) (InputError × List ℕ)) (new : Option (List ℕ)) → o ≡ Some z
    → (ys : List ℕ) × (new ≡ Some ys) × (outcome ≡ Err (z, ys))
    → IfSome o (λ z. (ys : List ℕ) × (new ≡ Some ys) × (outcome ≡ Err (z, ys)))
rejected_as None z outcome new e h = cc
rejected_as (Some y) z outcome new e h =
    let f : z ≡ y = cc in (h.0, h.1, subst (λ x. outcome ≡ Err (x, h.0)) f h.2)

-- an error that says the error z, where the reader was kept
pub runs_rejected : {V E : Type 0} {f : Reading V} {a b : View} {e : DecodeError E} (z : InputError)
    → input_error_of e ≡ Some z → is_read e ≡ false → is_depth_overflow e ≡ false → Kept a b
    → IfKnown a.known (λ xs. (ys : List ℕ) × (b.known ≡ Some ys) × (f xs ≡ Err (z, ys)))
    → Runs f a b (Err e)
runs_rejected {f = f} {a = a} {b = b} {e = e} z says read shallow kept at = search rules

-- the error z takes nothing
pub runs_reject : {V E : Type 0} {e : DecodeError E} (z : InputError) (a : View)
    → input_error_of e ≡ Some z → is_read e ≡ false → is_depth_overflow e ≡ false
    → Runs {V = V} (reject z) a a (Err e)
runs_reject z a says read shallow =
    runs_rejected z says read shallow (kept_alike a) (λ xs known. (xs, known, refl))

-- ---- the next byte

pub shows_kept : {shown : List ℕ} {a b : View} → Shows shown a b → Kept a b
shows_kept {a = a} {b = b} s = search (rules, counted_none)

pub look_shows : (a b : View) (answer : Option (Bor (List ℕ))) (shown : Bor (List ℕ))
    → answer ≡ Some shown → MatchOption answer (ReaderFails a b) (λ s. Shows s.now a b)
    → Shows shown.now a b
look_shows a b answer shown e h = subst (λ o. MatchOption o (ReaderFails a b)
    (λ s. Shows s.now a b)) e h

-- nothing was shown
pub runs_end : {E : Type 0} {name : Bor (List ℕ)} {expect : ℕ} {shown : List ℕ} {a b : View}
    → Shows shown a b → IfKnown a.known (IsPrefix 1 shown) → length shown ≡ 0
    → Runs {E = E} (peek_at name.now expect) a b (Err (Eof name (Small expect)))
runs_end {name = name} {expect = expect} s prefix none =
    runs_rejected (eof name.now (Small expect)) refl refl refl (shows_kept s) (λ xs known.
    let e : xs ≡ [] = (prefix xs known).ends (omega arith) none in
    ([], s.known xs known ∙ ap Some e, ap (peek_at name.now expect) e))

first_is : (name : List ℕ) (expect : ℕ) (shown xs : List ℕ) → IsPrefix 1 shown xs → length shown ≢ 0
    → peek_at name expect xs ≡ Ok (get_or shown 0 0, xs)
first_is name expect [] xs prefix some = absurd (some refl)
first_is name expect (s ∷ ss) [] prefix some = absurd (omega (arith, prefix.within))
first_is name expect (s ∷ ss) (x ∷ xs) prefix some =
    let h = prefix.begins in let e : x ≡ s = cc in ap (λ z. Ok (z, x ∷ xs)) e

-- some byte was shown
pub runs_peek : {E : Type 0} (name : List ℕ) (expect : ℕ) {shown : List ℕ} {a b : View}
    → Shows shown a b → IfKnown a.known (IsPrefix 1 shown) → length shown ≢ 0
    → Runs {E = E} (peek_at name expect) a b (Ok (get_or shown 0 0))
runs_peek name expect {shown = shown} s prefix some = search (rules, shows_kept, first_is)

-- the byte that was peeked
pub peek_byte : (name : List ℕ) (expect b : ℕ) (xs ys : List ℕ) → peek_at name expect xs ≡ Ok
    (b, ys)
    → (rest : List ℕ) × (xs ≡ b ∷ rest) × (ys ≡ xs)
peek_byte name expect b [] ys e = cc
peek_byte name expect b (x ∷ xs) ys e = search (rules, same_value)

-- the byte that was peeked is taken
taken : {E : Type 0} (name : List ℕ) (expect b : ℕ) (a m c : View) (xs : List ℕ)
    → Runs {E = E} (peek_at name expect) a m (Ok b) → Advances 1 m c → a.known ≡ Some xs
    → (rest : List ℕ) × (xs ≡ b ∷ rest) × (c.known ≡ Some rest)
taken name expect b a m c xs p adv known =
    let h = p.answers xs known in
    let q = peek_byte name expect b xs h.0 h.2 in
    let e : h.0 ≡ b ∷ q.0 = q.2 ∙ q.1 in
    (q.0, q.1, adv.known h.0 h.1 ∙ ap (λ (zs : List ℕ). Some (drop 1 zs)) e)

took_one : (b : ℕ) (xs rest : List ℕ) (new : Option (List ℕ)) → b < 256 → xs ≡ b ∷ rest
    → new ≡ Some rest → Took xs new 1
took_one b [] rest new h e left = cc
took_one b (x ∷ xs) rest new h e left = search rules

counts_one : {E : Type 0} (name : List ℕ) (expect b : ℕ) (a m c : View) (xs ys : List ℕ)
    → Runs {E = E} (peek_at name expect) a m (Ok b) → Advances 1 m c → a.known ≡ Some xs
    → c.known ≡ Some ys
    → (n : ℕ) → n + length ys ≡ length xs → c.taken ≡ counts n a.taken
counts_one name expect b a m c xs ys p adv known left n gone =
    let t = taken name expect b a m c xs p adv known in
    let h = p.answers xs known in
    let e : ys ≡ t.0 = let l = t.2 in cc in
    let same : h.0 ≡ xs = (peek_byte name expect b xs h.0 h.2).2 in
    let one : n ≡ 1 = omega (arith, gone, ap length e, ap length t.1) in
    let stays : m.taken ≡ counts 0 a.taken =
    p.moves.by.counted xs known h.0 h.1 0 (omega (arith, ap length same)) in
    adv.taken ∙ ap (counts 1) stays ∙ counts_more 0 1 n a.taken (omega (arith, one))

-- a byte that was looked at and taken
pub kept_taken : {E : Type 0} {name : List ℕ} {expect b : ℕ} {a m c : View}
    → Runs {E = E} (peek_at name expect) a m (Ok b) → b < 256 → Advances 1 m c → Kept a c
kept_taken {name = name} {expect = expect} {b = b} {a = a} {m = m} {c = c} p h adv = record {
  rest = λ xs known. let t = taken name expect b a m c xs p adv known in
      (1, took_one b xs t.0 c.known h t.1 t.2);
  counted = λ xs known ys left n gone. counts_one name expect b a m c xs ys p adv known left n gone;
  bound = omega (arith, p.moves.by.bound, adv.bound);
  budget = adv.budget ∙ p.moves.by.budget;
  failures = adv.failures ∙ p.moves.by.failures;
  zero_copy = λ h. adv.zero_copy (p.moves.by.zero_copy h);
  remembers = λ h. adv.remembers (p.moves.by.remembers h);
  ends_at = adv.ends_at ∙ p.moves.by.ends_at;
}

pub runs_byte : {E : Type 0} {name : List ℕ} {expect b : ℕ} {a m c : View}
    → Runs {E = E} (peek_at name expect) a m (Ok b) → b < 256 → Advances 1 m c
    → Runs {E = E} (byte_at name expect) a c (Ok b)
runs_byte {name = name} {expect = expect} {b = b} {a = a} {m = m} {c = c} p h adv = record {
  moves = record { by = kept_taken p h adv; depth = λ e. refl };
  answers = λ xs known.
      let t = taken name expect b a m c xs p adv known in
      (t.0, t.2, ap (byte_at name expect) t.1);
}

-- ---- a call that is under way

pub reaches_start : {V : Type 0} (f : Reading V) (a : View) → Reaches f f a a
reaches_start f a = record { kept = kept_alike a; leads = λ xs known. (xs, known, refl) }

-- the program that is left is another one that is equal
pub reaches_as : {V : Type 0} {f g h : Reading V} {a m : View} → g ≡ h → Reaches f g a m
    → Reaches f h a m
reaches_as {f = f} {a = a} {m = m} e p = subst (λ z. Reaches f z a m) e p

-- a part of what is left was done
pub reaches_then : {U V E : Type 0} {f : Reading V} {h : Reading U} (k : U → Reading V)
    {a m b : View} {u : U} → Reaches f (h >=> k) a m → Runs {E = E} h m b (Ok u)
    → Reaches f (k u) a b
reaches_then k p q = record {
  kept = kept_then p.kept q.moves.by;
  leads = λ xs known.
      let s = p.leads xs known in
      let t = q.answers s.0 s.1 in
      (t.0, t.1, s.2 ∙ ap (λ z. go_on z k) t.2);
}

-- all that is left was done
pub reaches_end : {V E : Type 0} {f g : Reading V} {a m b : View} {r : Result V (DecodeError E)}
    → Reaches f g a m → Runs g m b r → Runs f a b r
reaches_end {f = f} {g = g} {b = b} {r = r} p q = search (rules, moves_then, as_of)

-- a value that only gets another form
pub runs_mapped : {U V E : Type 0} {f : Reading U} (form : U → V) {a b : View} {u : U}
    → Runs {E = E} f a b (Ok u) → Runs {E = E} (f >=> λ u. give (form u)) a b (Ok (form u))
runs_mapped form {b = b} {u = u} p = runs_then (λ u. give (form u)) p (runs_give (form u) b)

-- the same, where the answer says it in another way
pub runs_with : {U V E : Type 0} {f : Reading U} (form : U → V) {a b : View} {u : U} {v : V}
    → v ≡ form u → Runs {E = E} f a b (Ok u) → Runs {E = E} (f >=> λ u. give (form u)) a b (Ok v)
runs_with {V = V} {E = E} {f = f} form {a = a} {b = b} e p = search (rules, runs_mapped)
