-- The value at the beginning of an input.
use Rattle.std.specs.Prelude.{ℕ, ◌≤◌, List, Option, Some, Result, Err, IfOk, IfErr}
use Rattle.std.specs.Prelude.{IfSome, IsTrue}
use Rattle.cbor4ii_rw.specs.Input.{limit}
use Rattle.cbor4ii_rw.specs.declared.error.WholeError.{WholeError}
use Rattle.cbor4ii_rw.specs.View.{View, IfKnown}
use Rattle.cbor4ii_items.specs.Decoding.{NoneRead, IsExact}
use Rattle.cbor4ii_items.specs.Whole.{ReadsToTheEnd, IsWhole, NoneIsWhole, Trails, IsSure}
use Rattle.cbor4ii_items.specs.Whole.{IfDecode, IfTrailing}
use Rattle.cbor4ii_items.specs.InputError.{InputError, input_error_of, is_out_of_memory}
use Rattle.cbor4ii.specs.declared.serde.de.error.DecodeError.{DecodeError}
use Rattle.cbor4ii.specs.Typed.{Promise, as_core}

-- what an error of typed reading says of the bytes
abbrev pub typed_error_of : {E : Type 0} → DecodeError E → Option InputError
typed_error_of error = input_error_of (as_core error)

-- Memory is refused only to a type that takes some. Of an exact type, where it is sure to be
-- accepted, an error that speaks of the bytes comes only where none is. It is the one that the type
-- gives for all of them. Of a type that reports its errors it is one that the type gives there.
-- An accepted value is read at the beginning of the bytes, at a cost of at most 256.
pub record First {V E : Type 0} (promise : Promise V) (sure : Type 0) (known : Option (List ℕ))
    (answer : Result V (DecodeError E)) : Type 0 where
  pub accepts : IfOk answer (λ v. IfKnown known
      (λ xs. (n c : ℕ) × promise.format.reads xs v n c × (c ≤ limit)))
  pub memory : IfErr answer (λ error. IsTrue (is_out_of_memory (as_core error))
      → IsTrue promise.format.takes_memory)
  pub is_complete : IsTrue promise.exact → sure → IfErr answer (λ error. IfKnown known
      (λ xs. IfSome (input_error_of (as_core error))
      (λ _. NoneRead promise.format.reads xs (Some limit))))
  pub rejects : IsTrue promise.exact → sure
      → IfErr answer (λ error. IfKnown known (λ xs. IfSome (input_error_of (as_core error))
      (λ err. (rest : List ℕ) × promise.format.rejects xs (Some limit) err rest)))
  pub begins : IsTrue promise.known
      → IfErr answer (λ error. IfKnown known (λ xs. IfSome (input_error_of (as_core error))
      (λ err. (rest : List ℕ) × promise.format.begins xs (Some limit) err rest)))

-- an accepted value is read at the beginning of what a reader has left, as `First` says
pub record FirstOf {V E : Type 0} (promise : Promise V) (view : View)
    (answer : Result V (DecodeError E)) : Type 0 where
  pub first : First promise (IsExact promise.format.owned view) view.known answer

-- Bytes that follow a value are counted; of an exact type the whole input is read as no value then.
-- Any other error is one of reading.
-- An accepted value is read from the beginning, and is the whole input of an exact type.
pub record FirstWhole {V E : Type 0} (promise : Promise V) (bytes : List ℕ)
    (answer : Result V (WholeError (DecodeError E))) : Type 0 where
  pub accepts : IfOk answer (ReadsToTheEnd promise.format.reads bytes)
  pub whole : IsTrue promise.exact → IfOk answer (IsWhole promise.format.reads bytes)
  pub trailing : IfErr answer (λ error. IfTrailing error (Trails promise.format.reads bytes))
  pub none : IsTrue promise.exact → IfErr answer (λ error. IfTrailing error
      (λ left. NoneIsWhole promise.format.reads bytes))
  pub rejects : IfErr answer (λ error. IfDecode error (λ why.
      First promise (IsSure promise.format.owned bytes) (Some bytes) (Err why)))
