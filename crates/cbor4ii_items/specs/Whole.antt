-- What it answers to read an input as one item: the whole of it, and nothing else.
use Rattle.std.specs.Prelude.{◌≡◌, ℕ, ◌+◌, ◌^◌, ◌<◌, ◌≤◌, ◌⊎◌, Bool, List, length, Some, Result, Ok}
use Rattle.std.specs.Prelude.{Err, IfOk, IfErr, IfSome, IsTrue, Option}
use Rattle.cbor4ii_rw.specs.Input.{limit}
use Rattle.cbor4ii_rw.specs.declared.error.DecodeError.{DecodeError}
use Rattle.cbor4ii_rw.specs.declared.error.ErrorAt.{ErrorAt}
use Rattle.cbor4ii_rw.specs.declared.error.WholeError.{WholeError}
use Rattle.cbor4ii_rw.specs.declared.error.WholeError.TheVariants.{Decode, Trailing}
use Rattle.cbor4ii_items.specs.InputError.{InputError, input_error_of, is_out_of_memory}
use Rattle.cbor4ii_items.specs.Decoding.{Reads, RejectsAt, Format, NoneRead}

-- the whole input is read as the value, within the steps
abbrev pub IsWhole : {V : Type 0} → Reads V → List ℕ → V → Type 0
IsWhole reads bytes v = (cost : ℕ) × reads bytes v (length bytes) cost × (cost ≤ limit)

-- a value is read from the beginning of the input, within the steps, and no byte follows it
abbrev pub ReadsToTheEnd : {V : Type 0} → Reads V → List ℕ → V → Type 0
ReadsToTheEnd reads bytes v = (count cost : ℕ) × reads bytes v count cost × (cost ≤ limit) ×
    (length bytes ≤ count)

-- the input as a whole is read as no value
abbrev pub NoneIsWhole : {V : Type 0} → Reads V → List ℕ → Type 0
NoneIsWhole {V} reads bytes = (v : V) → IsWhole reads bytes v → ⊥

-- a value is read from the beginning, and so many bytes follow it, one at least
abbrev pub Trails : {V : Type 0} → Reads V → List ℕ → ℕ → Type 0
Trails {V} reads bytes left = (v : V) × ((count cost : ℕ) × reads bytes v count cost ×
    (cost ≤ limit) × (count + left ≡ length bytes) × (1 ≤ left))

-- where what is answered is exact: the type needs no borrowed slice, or one fill can ask for all
abbrev pub IsSure : Bool → List ℕ → Type 0
IsSure owned bytes = IsTrue owned ⊎ (length bytes < 2 ^ 64)

-- a fact of the error of reading
abbrev pub IfDecode : {E : Type 0} → WholeError E → (E → Type 0) → Type 0
IfDecode (Decode error) P = P error
IfDecode (Trailing left) P = Unit {0}

-- a fact of how many bytes follow
abbrev pub IfTrailing : {E : Type 0} → WholeError E → (ℕ → Type 0) → Type 0
IfTrailing (Decode error) P = Unit {0}
IfTrailing (Trailing left) P = P left

-- an error of reading from the beginning of an input
pub record NotBegun {V E : Type 0} (format : Format V) (bytes : List ℕ)
    (error : DecodeError E) : Type 0 where
  -- memory is refused only to a type that takes some
  pub memory : IsTrue (is_out_of_memory error) → IsTrue format.takes_memory
  -- an error that speaks of the bytes comes only where no value is read from their beginning
  pub complete : IsSure format.owned bytes → IfSome (input_error_of error)
      (λ _. NoneRead format.reads bytes (Some limit))
  -- it is the one that the type gives there
  pub rejects : IsSure format.owned bytes → IfSome (input_error_of error)
      (λ err. (rest : List ℕ) × format.rejects bytes (Some limit) err rest)
  pub begins : IfSome (input_error_of error)
      (λ err. (rest : List ℕ) × format.begins bytes (Some limit) err rest)

-- a call that reads an input as one item
pub record DecodesWhole {V E : Type 0} (format : Format V) (bytes : List ℕ)
    (answer : Result V (WholeError (DecodeError E))) : Type 0 where
  -- an accepted value is encoded by the whole input
  pub accepts : IfOk answer (IsWhole format.reads bytes)
  -- bytes that follow are counted, and the whole is no encoding then
  pub trailing : IfErr answer (λ error. IfTrailing error
      (λ left. Trails format.reads bytes left × NoneIsWhole format.reads bytes))
  -- any other error is one of reading
  pub rejects : IfErr answer (λ error. IfDecode error (NotBegun format bytes))

-- what is answered, without the byte
abbrev pub without_byte : {V E : Type 0} → Result V (ErrorAt E) → Result V E
without_byte (Ok v) = Ok v
without_byte (Err fault) = Err fault.error

-- the byte of an error is where what it leaves begins
pub record StopsAt {E : Type 0} (error_of : E → Option InputError) (rejects : RejectsAt)
    (bytes : List ℕ) (fault : ErrorAt (WholeError E)) : Type 0 where
  pub within : fault.at ≤ length bytes
  -- the value ends there, and as many bytes follow as are said to
  pub trailing : IfTrailing fault.error (λ left. fault.at + left ≡ length bytes)
  -- an error that speaks of the bytes is one that is given for them, and leaves the others
  pub leaves : IfDecode fault.error (λ why. IfSome (error_of why) (λ err.
      (rest : List ℕ) × rejects bytes (Some limit) err rest ×
      (fault.at + length rest ≡ length bytes)))
