-- A text in pieces, as an item.
use Rattle.std.proofs.Common.{◌≡◌, ℕ, List, ◌++◌, Option, None, Some, Result, Ok, Err, Bool, true}
use Rattle.std.proofs.Common.{false, refl, sym, ap, subst, ◌⊎◌, inl, inr, IsSome, rules}
use Rattle.std.proofs.Math.Seq.{take-length}
use Rattle.std.specs.Prelude.{codes}
use denote.Ref.{Bor}
use Rattle.cbor4ii_rw.specs.Writer.{Output}
use Rattle.cbor4ii_rw.specs.declared.error.EncodeError as core
use Rattle.cbor4ii_items.specs.Writing.{Writes}
use Rattle.cbor4ii_items.specs.Laws.Written.{writes_then, writes_err, writes_as}
use Rattle.cbor4ii_ser.specs.declared.error.EncodeError.TheVariants.{Core, Custom}
use Rattle.cbor4ii_ser.specs.Serializing.{Serializes}
use Rattle.cbor4ii_ser.specs.Pieces.{Pending, nothing_yet, pieces_bytes, after, last_bytes}
use Rattle.cbor4ii_ser.specs.Pieces.{text_bytes}
use Rattle.cbor4ii_ser.specs.TextState.{TextSeen, Wrote, Flushes, Pends, writing_outcome}
use Rattle.cbor4ii_ser.specs.TextState.{text_encoding}
use Rattle.cbor4ii_ser.specs.TextState.{unended_bytes}

flushed_on : {E : Type 0} {whole : Bool} (ps : List (List ℕ)) (p q : Pending) (o m n : Output)
    (g : Option E) (r : Result (Unit {0}) E) → Writes whole (pieces_bytes p ps) o m
    (writing_outcome g)
    → Pends ps p q g → (g ≡ None → Writes whole (last_bytes q) m n r)
    → ((e : E) → g ≡ Some e → (r ≡ Err e) × (n ≡ m))
    → Writes whole (pieces_bytes p ps ++ last_bytes (after p ps)) o n r
flushed_on ps p q o m n None r first is ends fails =
    writes_as r (ap (λ z. pieces_bytes p ps ++ last_bytes z) is)
    (writes_then {t = tt} r first (ends refl))
flushed_on {whole = whole} ps p q o m n (Some e) r first is ends fails =
    let at = fails e refl in
    subst (λ z. Writes whole (pieces_bytes p ps ++ last_bytes (after p ps)) o z r) (sym at.1)
    (subst (λ z. Writes whole (pieces_bytes p ps ++ last_bytes (after p ps)) o m z) (sym at.0)
    (writes_err (last_bytes (after p ps)) first))

-- the pieces from the first on, and the end
pub flushed : {E : Type 0} {whole : Bool} {ps : List (List ℕ)} {a b : TextSeen E} {n : Output}
    {r : Result (Unit {0}) E} → a.failure ≡ None → a.pending ≡ nothing_yet → Wrote whole ps a b
    → Flushes whole b n r → Writes whole (text_bytes ps) a.output n r
flushed {whole = whole} {ps = ps} {a = a} {b = b} {n = n} {r = r} fine start w f =
    writes_as r (ap (λ z. pieces_bytes z ps ++ last_bytes (after z ps)) start)
    (flushed_on ps a.pending b.pending a.output b.output n b.failure r (w.writes fine)
    (w.pends fine) f.ends f.fails)

module _ {E : Type 0} {whole : Bool} where
  pub collected_ok : (fails_itself : Bool) (ps : List (List ℕ)) {o n : Output} {u : Unit {0}}
      → fails_itself ≡ false → Writes {E = core.EncodeError E} whole (text_bytes ps) o n (Ok u)
      → Serializes {T = Unit {0}} {E = E} whole (text_encoding fails_itself ps) o n (Ok tt)
  collected_ok true ps is w = absurd (cc)
  collected_ok false ps is w = search rules

  -- the writer failed at the end of the text
  pub collected_err : (fails_itself : Bool) (ps : List (List ℕ)) {o n : Output} {e :
      core.EncodeError E}
      → fails_itself ≡ false → Writes {T = Unit {0}} whole (text_bytes ps) o n (Err e)
      → Serializes {T = Unit {0}} {E = E} whole (text_encoding fails_itself ps) o n (Err (Core e))
  collected_err true ps is w = absurd (cc)
  collected_err false ps is w = search rules

  -- the writer failed in one of the pieces
  pub collected_failed : (fails_itself : Bool) {ps : List (List ℕ)} {a b : TextSeen
      (core.EncodeError E)}
      (e : core.EncodeError E) → b.failure ≡ Some e → a.failure ≡ None → a.pending ≡ nothing_yet
      → Wrote whole ps a b → Serializes {T = Unit {0}}
      {E = E} whole (text_encoding fails_itself ps) a.output b.output (Err (Core e))
  collected_failed true {ps = ps} {a = a} {b = b} e is fine start w = search rules
  collected_failed false {ps = ps} {a = a} {b = b} e is fine start w =
      let at : Writes whole (pieces_bytes a.pending ps) a.output b.output
      (writing_outcome (Some e)) = search rules in
      collected_err false ps refl
      (writes_as (Err e) (ap (λ z. pieces_bytes z ps ++ last_bytes (after z ps)) start)
      (writes_err (last_bytes (after a.pending ps)) at))

  -- it rejected by itself
  pub collected_rejected : (fails_itself : Bool) {ps : List (List ℕ)}
      {a b : TextSeen (core.EncodeError E)} (text : Bor (List ℕ)) → text.now ≡ codes "text refused"
      → b.failure ≡ None → a.failure ≡ None → a.pending ≡ nothing_yet
      → (fails_itself ≡ true) ⊎ IsSome b.failure → Wrote whole ps a b → Serializes {T = Unit {0}}
      {E = E} whole (text_encoding fails_itself ps) a.output b.output (Err (Custom text))
  collected_rejected true {ps = ps} {a = a} {b = b} text said is fine start why w =
      let at : Writes whole (unended_bytes ps) a.output b.output (Ok tt) =
      subst (λ z. Writes whole (unended_bytes ps) a.output b.output (writing_outcome z)) is
      (subst (λ z. Writes whole (pieces_bytes z ps) a.output b.output
      (writing_outcome b.failure)) start
      (w.writes fine)) in
      record {
        appends = tt;
        counts = tt;
        failed = ((at.appends, said), at.counts);
        prefix = λ whole held known.
            (unended_bytes ps, take-length (unended_bytes ps), at.appends held known);
      }
  collected_rejected false text said is fine start (inl h) w = absurd (cc)
  collected_rejected false {b = b} text said is fine start (inr h) w = search rules
