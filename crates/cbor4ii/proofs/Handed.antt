-- A value that is handed on as another one.
use Rattle.std.proofs.Common.{◌≡◌, ℕ, List, Result, Ok, Err, IsTrue, refl, sym, ap, subst, rules}
use Rattle.cbor4ii_rw.specs.View.{View}
use Rattle.cbor4ii_rw.specs.declared.error.DecodeError.{DecodeError as CoreError}
use Rattle.cbor4ii_items.specs.Decoding.{Format, Decodes, format_by}
use Rattle.cbor4ii_items.specs.declared.types.Bytes.{Bytes}
use Rattle.cbor4ii_items.specs.Laws.Answering.{complete_as}
use Rattle.cbor4ii_items.specs.Laws.Calls.{ok, out_of_memory}
use Rattle.cbor4ii_items.specs.Laws.Steps.{moves_err}
use Rattle.cbor4ii.specs.declared.serde.de.error.DecodeError.{DecodeError}
use Rattle.cbor4ii.specs.Borrowed.{Copies, Unwraps}
use Rattle.cbor4ii.specs.Typed.{as_core, answer_of}
use Rattle.cbor4ii.proofs.Forms.{sound_by}

module _ {U V W : Type 0} (s : Format U) (found : V → U) (handed : W → U) {a b : View} where
  another_ok : {E : Type 0} {v : V} {w : W} → handed w ≡ found v
      → Decodes {E = E} (format_by found s) a b (Ok v)
      → Decodes {E = E} (format_by handed s) a b (Ok w)
  another_ok same d =
      ok (format_by handed s) d.moves.by d.progress
      (sound_by d.sound (λ xs n c r. subst (λ u. s.reads xs u n c) (sym same) r))

  another_err : {E : Type 0} {e : CoreError E} → ((w : W) → (v : V) × (found v ≡ handed w))
      → Decodes (format_by found s) a b (Err e) → Decodes (format_by handed s) a b (Err e)
  another_err back d = record {
    moves = moves_err d.moves;
    progress = λ some. tt;
    memory = d.memory;
    sound = tt;
    complete = λ sure. complete_as (format_by found s).reads (format_by handed s).reads
        (λ xs budget none w n c r fits. none (back w).0 n c
        (subst (λ u. s.reads xs u n c) (sym (back w).1) r) fits) (d.complete sure);
    rejects = d.rejects;
    begins = d.begins;
  }

-- in memory of its own
pub copied : {V W E : Type 0} (s : Format (List ℕ)) (content : V → List ℕ) (copy : W → List ℕ)
    (IsOwned : W → Type 0) → IsTrue s.takes_memory → ((w : W) → (v : V) × (content v ≡ copy w))
    → {a b : View} (r : Result V (DecodeError E)) (q : Result W (DecodeError E))
    → Copies content copy IsOwned r q → Decodes (format_by content s) a b (answer_of r)
    → Decodes (format_by copy s) a b (answer_of q)
copied s content copy IsOwned takes back (Ok v) (Ok w) h d =
    another_ok s content copy h.handed.1 d
copied s content copy IsOwned takes back (Err f) (Ok w) h d = absurd h.handed
copied s content copy IsOwned takes back {a = a} {b = b} (Ok v) (Err e) h d =
    search (rules, out_of_memory)
copied s content copy IsOwned takes back {a = a} {b = b} (Err f) (Err e) h d =
    subst (λ z. Decodes (format_by copy s) a b (Err (as_core z))) (sym h.rejected)
    (another_err s content copy back d)

-- what stands in the `Bytes`
pub unwrapped : {V E : Type 0} (s : Format (List ℕ)) (content : V → List ℕ) {a b : View}
    (r : Result (Bytes V) (CoreError E)) (q : Result V (DecodeError E)) → Unwraps r q
    → Decodes (format_by (λ v. content v.0) s) a b r
    → Decodes (format_by content s) a b (answer_of q)
unwrapped s content (Ok v) (Ok w) h d =
    another_ok s (λ (v : Bytes _). content v.0) content (ap content (sym h.handed)) d
unwrapped s content (Err f) (Ok w) h d = absurd h.handed
unwrapped s content (Ok v) (Err e) h d = absurd h.rejected
unwrapped s content {a = a} {b = b} (Err f) (Err e) h d =
    subst (λ z. Decodes (format_by content s) a b (Err z)) (sym h.rejected)
    (another_err s (λ (v : Bytes _). content v.0) content (λ w. (record { 0 = w }, refl)) d)
