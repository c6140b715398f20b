-- One push after another.
use Rattle.std.proofs.Common.{◌≡◌, ℕ, List, ◌++◌, Option, Some, Result, Ok, Err}
use Rattle.std.proofs.Common.{Bool, ap, ◌∙◌, append_assoc, subst, length-append, inr, rules}
use Rattle.std.specs.Io.{StartsWith}
use Rattle.std.proofs.Math.Seq.{take-append-add}
use Rattle.std.proofs.lemmas.List.{take-append-le, length-take}
use Rattle.cbor4ii_rw.specs.Reader.{Failed}
use Rattle.cbor4ii_rw.specs.Writer.{Output, Appends}
use Rattle.cbor4ii_items.specs.Writing.{AppendsPrefix, Writes, WritesAtomically, InTwoPushes}

pub appends_then : (xs ys : List ℕ) (a m b : Option (List ℕ)) → Appends xs a m → Appends ys m b
    → Appends (xs ++ ys) a b
appends_then xs ys a m b p q held known =
    q (held ++ xs) (p held known) ∙ ap Some (append_assoc held xs ys)

pub starts_then : (xs ys prefix : List ℕ) → StartsWith ys prefix → StartsWith (xs ++ ys)
    (xs ++ prefix)
starts_then xs ys prefix h = search (rules, length-append, take-append-add)

prefix_then : (xs ys : List ℕ) (a m b : Option (List ℕ)) → Appends xs a m → AppendsPrefix ys m b
    → AppendsPrefix (xs ++ ys) a b
prefix_then xs ys a m b p q held known =
    let f = q (held ++ xs) (p held known) in
    (xs ++ f.0, starts_then xs ys f.0 f.1, f.2 ∙ ap Some (append_assoc held xs f.0))

-- the bytes of one call, and then those of another
pub writes_then : {T U E : Type 0} {whole : Bool} {xs ys : List ℕ} {a m b : Output} {t : T}
    (r : Result U E) → Writes {E = E} whole xs a m (Ok t) → Writes whole ys m b r
    → Writes whole (xs ++ ys) a b r
writes_then {xs = xs} {ys = ys} {a = a} {m = m} {b = b} (Ok u) p q = search (rules, appends_then)
writes_then {xs = xs} {ys = ys} {a = a} {m = m} {b = b} (Err e) p q = record {
  appends = tt;
  counts = tt;
  failed = subst (λ n. Failed n b.failures) p.counts q.failed;
  prefix = λ whole. prefix_then xs ys a.written m.written b.written p.appends (q.prefix whole);
}

pub starts_more : (xs ys prefix : List ℕ) → StartsWith xs prefix → StartsWith (xs ++ ys) prefix
starts_more xs ys prefix h = search (rules, length-take, take-append-le)

-- where the first call fails, there is no other
pub writes_err : {T U E : Type 0} {whole : Bool} {xs : List ℕ} (ys : List ℕ) {a b : Output} {e : E}
    → Writes {T = T} whole xs a b (Err e) → Writes {T = U} whole (xs ++ ys) a b (Err e)
writes_err {xs = xs} ys p = search (rules, starts_more)

pub writes_as : {T E : Type 0} {whole : Bool} {xs ys : List ℕ} {a b : Output} (r : Result T E)
    → xs ≡ ys → Writes whole xs a b r → Writes whole ys a b r
writes_as {whole = whole} {a = a} {b = b} r e p = subst (λ z. Writes whole z a b r) e p

pub writes_once_as : {T E : Type 0} {whole : Bool} {xs ys : List ℕ} {a b : Output}
    (r : Result T E) → xs ≡ ys → WritesAtomically whole xs a b r → WritesAtomically whole ys a b r
writes_once_as r e p = record { writes = writes_as r e p.writes; kept = p.kept }

-- the second push, after the first
pub in_two_pushes : {T U E F : Type 0} {atomic : Bool} {first bytes : List ℕ} {a m b : Output}
    {u : U} (r : Result T E) → Writes {T = U} {E = F} atomic first a m (Ok u)
    → WritesAtomically atomic bytes m b r → InTwoPushes atomic first a b r
in_two_pushes (Ok v) p w is = tt
in_two_pushes {first = first} (Err e) p w is =
    inr (λ xs known. w.kept is (xs ++ first) (p.appends xs known))
