-- Strings that are to be borrowed, where the reader lends nothing.
use Rattle.std.proofs.Common.{◌≡◌, ℕ, inl, List, Result, Ok, Err, IfOk, IfErr, true, false}
use Rattle.std.proofs.Common.{sym}
use Rattle.std.proofs.Common.{◌∙◌, subst, rules}
use Rattle.cbor4ii_rw.specs.View.{View}
use Rattle.cbor4ii_items.specs.Decoding.{Reads, RejectsAt, IsExact, Sound, Rejects}
use Rattle.cbor4ii_items.specs.Moves.{Moves}
use Rattle.cbor4ii_items.specs.Laws.Steps.{moves_err}
use Rattle.cbor4ii.specs.declared.serde.de.error.DecodeError.{DecodeError}
use Rattle.cbor4ii.specs.Borrowed.{RejectsCopy, RejectsUnlent}
use Rattle.cbor4ii.specs.Typed.{IsLawfulReading, Deserializes, as_core, answer_of, typed_by}
use Rattle.cbor4ii.proofs.Borrowing.{lends_of, unlent, unlent_rejects}
use Rattle.cbor4ii.proofs.Stopped.{stopped_as}

never_exact : {Q : Type 0} (a : View) → a.zero_copy ≡ false → IsExact false a → Q
never_exact a none exact = let no : false ≡ true = sym none ∙ lends_of a exact in cc

module _ {V W E : Type 0} (name : List ℕ) (reads : Reads V) (rejects : RejectsAt) where
  copy_moves : (r : Result V (DecodeError E)) (q : Result W (DecodeError E)) (a b : View)
      → RejectsCopy name r q → Moves a b (answer_of r) → Moves a b (answer_of q)
  copy_moves r (Ok w) a b h m = absurd (let no : false ≡ true = h.rejected in cc)
  copy_moves (Ok v) (Err e) a b h m =
      let k = h.reason in subst (λ z. Moves {V = W} a b (Err z)) (sym k.1) (unlent k.0 m)
  copy_moves (Err f) (Err e) a b h m =
      subst (λ z. Moves {V = W} a b (Err (as_core z))) (sym h.reason) (moves_err m)

  -- how it is rejected
  copy_rejects : (r : Result V (DecodeError E)) (e : DecodeError E) (a b : View)
      → RejectsCopy {W = W} name r (Err e) → IfOk (answer_of r) (Sound reads a b)
      → IfErr (answer_of r) (Rejects rejects a b) → Rejects (RejectsUnlent name reads rejects) a b
      (as_core e)
  copy_rejects (Ok v) e a b h sound begins =
      unlent_rejects name reads rejects (as_core e) h.reason sound
  copy_rejects (Err f) e a b h sound begins =
      subst (λ z. Rejects (RejectsUnlent name reads rejects) a b (as_core z)) (sym h.reason)
      (stopped_as rejects (RejectsUnlent name reads rejects) (λ xs budget z ys t. inl t) begins)

  pub copy_rejected : {lent : Reads W} {same : W → W → Type 0} (laws : IsLawfulReading lent same
      true)
      (r : Result V (DecodeError E)) (q : Result W (DecodeError E)) (a b : View)
      → a.zero_copy ≡ false → RejectsCopy name r q → Moves a b (answer_of r)
      → IfOk (answer_of r) (Sound reads a b) → IfErr (answer_of r) (Rejects rejects a b)
      → Deserializes (typed_by (RejectsUnlent name reads rejects) false true laws) a b (answer_of q)
  copy_rejected laws r (Ok w) a b none h moves sound begins =
      absurd (let no : false ≡ true = h.rejected in cc)
  copy_rejected laws r (Err e) a b none h moves sound begins = search (rules, copy_moves, never_exact, copy_rejects)
