-- Pieces, one after another.
use Rattle.std.proofs.Common.{◌≡◌, ℕ, List, [], ◌∷◌, ◌++◌, Option, None, Some, Ok, Err, Bool, true}
use Rattle.std.proofs.Common.{false, refl, sym, ap, ◌∙◌, append_assoc, subst, ◌⊎◌, inl, inr, IsSome}
use Rattle.std.proofs.Common.{if◌then◌else◌, rules}
use Rattle.std.proofs.lemmas.List.{append-nil}
use Rattle.cbor4ii_rw.specs.Writer.{Output}
use Rattle.cbor4ii_items.specs.Writing.{Writes}
use Rattle.cbor4ii_items.specs.Laws.Written.{writes_then, writes_err, writes_as}
use Rattle.cbor4ii_ser.specs.Pieces.{Pending, pieces_bytes, after, piece_fits_after, piece_bytes}
use Rattle.cbor4ii_ser.specs.Pieces.{piece_pending}
use Rattle.cbor4ii_ser.specs.TextState.{TextSeen, Wrote, Pends, writing_outcome}

pub after_append : (p : Pending) (ps qs : List (List ℕ))
    → after p (ps ++ qs) ≡ after (after p ps) qs
unfolding after
after_append p [] qs = refl
after_append p (a ∷ ps) qs = after_append (piece_pending (piece_fits_after p a) p a) ps qs

pub written_append : (p : Pending) (ps qs : List (List ℕ))
    → pieces_bytes p (ps ++ qs) ≡ pieces_bytes p ps ++ pieces_bytes (after p ps) qs
unfolding pieces_bytes after
written_append p [] qs = refl
written_append p (a ∷ ps) qs =
    search (rules, append_assoc, (written_append (piece_pending (piece_fits_after p a) p a) ps qs))

written_one : (p : Pending) (a : List ℕ) → pieces_bytes p (a ∷ []) ≡ piece_bytes
    (piece_fits_after p a) p
    a
unfolding pieces_bytes
written_one p a = append-nil (piece_bytes (piece_fits_after p a) p a)

after_one : (p : Pending) (a : List ℕ) → after p (a ∷ []) ≡ piece_pending (piece_fits_after p a) p a
unfolding after
after_one p a = refl

writes_on : {E : Type 0} {whole : Bool} (ps qs : List (List ℕ)) (p q : Pending) (o m n : Output)
    (f g : Option E) → Writes whole (pieces_bytes p ps) o m (writing_outcome f) → Pends ps p q f
    → (f ≡ None → Writes whole (pieces_bytes q qs) m n (writing_outcome g))
    → ((e : E) → f ≡ Some e → (n ≡ m) × (g ≡ f))
    → Writes whole (pieces_bytes p (ps ++ qs)) o n (writing_outcome g)
writes_on {whole = whole} ps qs p q o m n None g first is second stays =
    writes_as (writing_outcome g) (ap (λ z. pieces_bytes p ps ++ pieces_bytes z qs) is
    ∙ sym (written_append p ps qs))
    (writes_then {t = tt} (writing_outcome g) first (second refl))
writes_on {E = E} {whole = whole} ps qs p q o m n (Some e) g first is second stays =
    let at = stays e refl in
    subst (λ z. Writes whole (pieces_bytes p (ps ++ qs)) o z (writing_outcome g)) (sym at.0)
    (subst (λ z. Writes whole (pieces_bytes p (ps ++ qs)) o m (writing_outcome z)) (sym at.1)
    (writes_as (writing_outcome (Some e)) (sym (written_append p ps qs))
    (writes_err (pieces_bytes (after p ps) qs) first)))

pends_on : {E : Type 0} (ps qs : List (List ℕ)) (p q r : Pending) (f g : Option E) → Pends ps p q f
    → (f ≡ None → Pends qs q r g) → ((e : E) → f ≡ Some e → g ≡ f) → Pends (ps ++ qs) p r g
pends_on ps qs p q r None None is second stays = search (rules, after_append)
pends_on ps qs p q r f (Some e) is second stays = tt
pends_on ps qs p q r (Some e) None is second stays = search rules

-- pieces, and then others
pub wrote_then : {E : Type 0} {whole : Bool} {ps qs : List (List ℕ)} {a b c : TextSeen E}
    → Wrote whole ps a b → Wrote whole qs b c → Wrote whole (ps ++ qs) a c
wrote_then {whole = whole} {ps = ps} {qs = qs} {a = a} {b = b} {c = c} first second = record {
  writes = λ fine. writes_on ps qs a.pending b.pending a.output b.output c.output b.failure
      c.failure (first.writes fine) (first.pends fine) second.writes
      (λ e is. (ap (λ s. s.output) (second.stays e is), ap (λ s. s.failure) (second.stays e is)));
  pends = search (rules, pends_on);
  stays = λ e is. second.stays e (ap (λ s. s.failure) (first.stays e is) ∙ is) ∙ first.stays e is;
}

writes_cut : {E : Type 0} {whole : Bool} (ps qs : List (List ℕ)) (p : Pending) (o m : Output)
    (f : Option E) (e : E) → f ≡ Some e → Writes whole (pieces_bytes p ps) o m (writing_outcome f)
    → Writes whole (pieces_bytes p (ps ++ qs)) o m (writing_outcome f)
writes_cut ps qs p o m (Some e) x is w = search (rules, writes_as, written_append, writes_err)
writes_cut ps qs p o m None x is w = absurd (cc)

pends_cut : {E : Type 0} (ps qs : List (List ℕ)) (p q : Pending) (f : Option E) (e : E) → f ≡ Some e
    → Pends (ps ++ qs) p q f
pends_cut ps qs p q (Some e) x is = tt
pends_cut ps qs p q None x is = absurd (cc)

-- after an error nothing comes after
pub wrote_cut : {E : Type 0} {whole : Bool} {ps : List (List ℕ)} (qs : List (List ℕ))
    {a b : TextSeen E} (e : E) → b.failure ≡ Some e → Wrote whole ps a b
    → Wrote whole (ps ++ qs) a b
wrote_cut {ps = ps} qs {a = a} {b = b} e is w = record {
  writes = λ fine. writes_cut ps qs a.pending a.output b.output b.failure e is (w.writes fine);
  pends = λ fine. pends_cut ps qs a.pending b.pending b.failure e is;
  stays = w.stays;
}

-- one piece
pub wrote_one : {E : Type 0} {whole : Bool} (piece : List ℕ) {p q : Pending} {o n : Output}
    {f : Option E} → f ≡ None
    → Writes {T = Unit {0}} {E = E} whole (piece_bytes (piece_fits_after p piece) p piece) o n
    (Ok tt)
    → q ≡ piece_pending (piece_fits_after p piece) p piece
    → Wrote {E = E} whole (piece ∷ []) (record { output = o; pending = p; failure = f })
    (record { output = n; pending = q; failure = f })
wrote_one {E = E} {whole = whole} piece {p = p} {q = q} {o = o} {n = n} {f = f} none w is = search (rules, writes_as, written_one, after_one)

pub wrote_one_err : {E : Type 0} {whole : Bool} (piece : List ℕ) {p q : Pending} {o n : Output}
    {f : Option E} {error : E} → f ≡ None → Writes {T = Unit {0}}
    {E = E} whole (piece_bytes (piece_fits_after p piece) p piece) o n (Err error)
    → Wrote {E = E} whole (piece ∷ []) (record { output = o; pending = p; failure = f })
    (record { output = n; pending = q; failure = Some error })
wrote_one_err {E = E} {whole = whole} piece {p = p} {error = error} none w = search (rules, writes_as, written_one)

some_of : {E : Type 0} (o : Option E) → IsSome o → (e : E) × (o ≡ Some e)
some_of None h = absurd (cc)
some_of (Some e) h = (e, refl)

-- the first of two texts rejects, or its writer failed
pub wrote_rejected : {E : Type 0} {whole : Bool} (fails_itself : Bool) (ps qs : List (List ℕ))
    {a b : TextSeen E} → (fails_itself ≡ true) ⊎ IsSome b.failure → Wrote whole ps a b
    → Wrote whole (if fails_itself then ps else (ps ++ qs)) a b
wrote_rejected true ps qs why w = w
wrote_rejected false ps qs (inl is) w = absurd (cc)
wrote_rejected false ps qs {b = b} (inr some) w =
    let found = some_of b.failure some in wrote_cut qs found.0 found.1 w
