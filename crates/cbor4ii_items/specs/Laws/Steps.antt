-- How one call after another leaves the reader.
use Rattle.std.proofs.Common.{◌≡◌, ℕ, zero, suc, ◌+◌, List, [], ◌∷◌, length, take, drop, Option}
use Rattle.std.proofs.Common.{None, Some, Result, Ok, Err, Bool, true, false, refl, ap, ◌∙◌}
use Rattle.std.proofs.Common.{arith, rules}
use Rattle.std.specs.Prelude.{MatchBool}
use Rattle.std.proofs.lemmas.List.{length-drop}
use Rattle.cbor4ii_rw.specs.View.{View}
use Rattle.cbor4ii_rw.specs.Reader.{counts}
use Rattle.cbor4ii_rw.specs.declared.error.DecodeError.{DecodeError}
use Rattle.cbor4ii_items.specs.Head.{IsBytes}
use Rattle.cbor4ii_items.specs.Laws.Prefixes.{drop_more}
use Rattle.cbor4ii_items.specs.Moves.{Took, Ends, Counted, EndsOrForgets, Kept, ReaderFailed, Moves}

bytes_more : (n m : ℕ) (xs : List ℕ) → IsBytes (take n xs) → IsBytes (take m (drop n xs))
    → IsBytes (take (n + m) xs)
bytes_more zero m xs p q = let e : 0 + m ≡ m = omega arith in rw e q
bytes_more (suc n) m [] p q = let e : suc n + m ≡ suc (n + m) = omega arith in rw e tt
bytes_more (suc n) m (x ∷ xs) p q =
    let e : suc n + m ≡ suc (n + m) = omega arith in rw e (p.0, bytes_more n m xs p.1 q)

took_more : (xs : List ℕ) (b c : Option (List ℕ)) (n m : ℕ) → Took xs b n → Took (drop n xs) c m
    → Took xs c (n + m)
took_more xs b c n m p q = search (rules, drop_more, length-drop, bytes_more)

ends_then : (a b c : Option (List ℕ)) → Ends a b → Ends b c → Ends a c
ends_then a b c p q xs known =
    let u = p xs known in
    let v = q (drop u.0 xs) u.1.left in
    (u.0 + v.0, took_more xs b c u.0 v.0 u.1 v.1)

ends_or_then : (a b c : Option (List ℕ)) → Ends a b → EndsOrForgets b c → EndsOrForgets a c
ends_or_then a b c p q xs known ys left =
    let u = p xs known in
    let v = q (drop u.0 xs) u.1.left ys left in
    (u.0 + v.0, v.1 ∙ drop_more v.0 u.0 xs)

counts_none : (n : ℕ) (taken : Option ℕ) → n ≡ 0 → counts n taken ≡ taken
counts_none n None none = refl
counts_none n (Some k) none = let e : k + n ≡ k = omega (arith, none) in ap Some e

pub counts_more : (n m k : ℕ) (taken : Option ℕ) → n + m ≡ k
    → counts m (counts n taken) ≡ counts k taken
counts_more n m k None sum = refl
counts_more n m k (Some t) sum = let e : (t + n) + m ≡ t + k = omega (arith, sum) in ap Some e

-- where no byte is gone, the count stays
pub counted_none : (a b : View) → ((xs : List ℕ) → a.known ≡ Some xs → b.known ≡ Some xs)
    → b.taken ≡ a.taken → Counted a b
counted_none a b same stays xs known ys left n gone = search (rules, counts_none)

counted_then : (a b c : View) → Ends a.known b.known → Ends b.known c.known → Counted a b →
    Counted b c
    → Counted a c
counted_then a b c p q first second xs known zs left n gone =
    let u = p xs known in
    let v = q (drop u.0 xs) u.1.left in
    let e : drop v.0 (drop u.0 xs) ≡ zs = let l = v.1.left in cc in
    let one =
    first xs known (drop u.0 xs) u.1.left u.0 (omega (arith, length-drop u.0 xs, u.1.within)) in
    let two = second (drop u.0 xs) u.1.left zs left v.0
    (omega (arith, ap length e, length-drop v.0 (drop u.0 xs), v.1.within)) in
    two ∙ ap (counts v.0) one ∙ counts_more u.0 v.0 n a.taken (omega (
      arith,
      gone,
      ap length e,
      length-drop u.0 xs,
      length-drop v.0 (drop u.0 xs),
      u.1.within,
      v.1.within,
    ))

pub kept_then : {a b c : View} → Kept a b → Kept b c → Kept a c
kept_then {a = a} {b = b} {c = c} p q = record {
  rest = ends_then a.known b.known c.known p.rest q.rest;
  counted = counted_then a b c p.rest q.rest p.counted q.counted;
  bound = omega (arith, p.bound, q.bound);
  budget = q.budget ∙ p.budget;
  failures = q.failures ∙ p.failures;
  zero_copy = λ h. q.zero_copy (p.zero_copy h);
  remembers = λ h. q.remembers (p.remembers h);
  ends_at = q.ends_at ∙ p.ends_at;
}

pub broke_then : {a b c : View} → Kept a b → ReaderFailed b c → ReaderFailed a c
broke_then {a = a} {b = b} {c = c} p q = record {
  rest = ends_or_then a.known b.known c.known p.rest q.rest;
  left = λ is. ends_then a.known b.known c.known p.rest (q.left (p.remembers is));
  bound = omega (arith, p.bound, q.bound);
  budget = q.budget ∙ p.budget;
  failures = rw p.failures at q.failures;
  zero_copy = λ h. q.zero_copy (p.zero_copy h);
  remembers = λ h. q.remembers (p.remembers h);
  ends_at = q.ends_at ∙ p.ends_at;
}

by_failure : (t : Bool) (a b c : View) → Kept a b → MatchBool t (ReaderFailed b c) (Kept b c)
    → MatchBool t (ReaderFailed a c) (Kept a c)
by_failure true a b c p q = broke_then p q
by_failure false a b c p q = kept_then p q

-- after a call that kept the reader, another one
pub moves_then : {V E : Type 0} {r : Result V (DecodeError E)} {a b c : View} → Kept a b
    → Moves b c r → Moves a c r
moves_then {r = r} {a = a} {b = b} {c = c} p q = search (rules, by_failure)

-- a value of one call, as that of another
pub moves_ok : {U V E : Type 0} {u : U} {v : V} {a b : View} → Moves {V = U} {E = E} a b (Ok u)
    → Moves {V = V} {E = E} a b (Ok v)
moves_ok p = record { by = p.by; depth = λ e. refl }

-- an error of one call, as that of another
pub moves_err : {U V E : Type 0} {e : DecodeError E} {a b : View} → Moves {V = U} a b (Err e)
    → Moves {V = V} a b (Err e)
moves_err p = record { by = p.by; depth = p.depth }
