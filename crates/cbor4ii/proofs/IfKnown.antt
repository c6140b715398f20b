-- What a call promises of a typed value, reported of the codec's answer and of its own.
use Rattle.std.proofs.Common.{◌+◌, ◌≤◌, Option, Some, None, Result, Ok, Err, IfOk, IfErr}
use Rattle.std.proofs.Common.{IsTrue, true, refl, rules}
use Rattle.std.specs.Prelude.{OnOk, OnSome}
use Rattle.cbor4ii_rw.specs.View.{View}
use Rattle.cbor4ii_rw.specs.declared.error.DecodeError.{DecodeError as CoreError}
use Rattle.cbor4ii_items.specs.Decoding.{IsExact, Sound, Complete, Rejects, Decodes}
use Rattle.cbor4ii_items.specs.Moves.{Moves}
use Rattle.cbor4ii_items.specs.InputError.{is_out_of_memory}
use Rattle.cbor4ii.specs.declared.serde.de.error.DecodeError.{DecodeError}
use Rattle.cbor4ii_items.specs.Laws.Calls.{of_exact}
use Rattle.cbor4ii.specs.Answered.{typed_value_or_error}
use Rattle.cbor4ii.specs.Typed.{Promise, Deserializes, as_core, answer_of}
use Rattle.cbor4ii.proofs.Promised.{promised}

-- what is reported of the codec's answer, of the call's own
module _ {V E : Type 0} where
  pub on_ok : (P : Type 0) (r : Result V (DecodeError E)) → OnOk (answer_of r) P → OnOk r P
  on_ok P (Ok v) h = h
  on_ok P (Err e) h = tt

  pub on_some : (P : Type 0) (r : Option V) (failure : Option (DecodeError E))
      → OnOk (answer_of (typed_value_or_error r failure)) P → OnSome r P
  on_some P (Some v) failure h = h
  on_some P None failure h = tt

  pub if_ok : (F : V → Type 0) (r : Result V (DecodeError E)) → IfOk (answer_of r) F → IfOk r F
  if_ok F (Ok v) h = h
  if_ok F (Err e) h = tt

  pub if_err : (F : CoreError E → Type 0) (r : Result V (DecodeError E))
      → IfErr (answer_of r) F → IfErr r (λ e. F (as_core e))
  if_err F (Ok v) h = tt
  if_err F (Err e) h = h

-- what is reported of the call's own answer, of the codec's
pub known : {V E : Type 0} (p : Promise V) {a b : View} (r : Result V (DecodeError E))
    → Moves a b (answer_of r) → OnOk r (b.bound + 1 ≤ a.bound)
    → IfErr r (λ e. IsTrue (is_out_of_memory (as_core e)) → IsTrue p.format.takes_memory)
    → IfOk r (Sound p.format.reads a b)
    → (IsTrue p.exact → IsExact p.format.owned a
    → IfErr r (λ e. Complete p.format.reads a (as_core e)))
    → (IsTrue p.exact → IsExact p.format.owned a
    → IfErr r (λ e. Rejects p.format.rejects a b (as_core e)))
    → (IsTrue p.known → IfErr r (λ e. Rejects p.format.begins a b (as_core e)))
    → Deserializes p a b (answer_of r)
known p (Ok v) moves progress memory sound complete rejects begins = search rules
known p (Err e) moves progress memory sound complete rejects begins = search rules

-- a call of the codec
pub decoded : {V E : Type 0} (p : Promise V) {a b : View} {r : Result V (CoreError E)}
    → Decodes p.format a b r → Deserializes p a b r
decoded p d = promised p (of_exact d)

-- a call that may take memory
pub may_take : {V E : Type 0} (r : Result V (DecodeError E))
    → IfErr r (λ e. IsTrue (is_out_of_memory (as_core e)) → IsTrue true)
may_take (Ok v) = tt
may_take (Err e) = λ out. refl
