-- Two answers to one input: they say the same.
use Rattle.std.specs.Prelude.{◌≡◌, ◌⊎◌, None, Result, Ok, Err}
use Rattle.cbor4ii_rw.specs.{declared.error.DecodeError.DecodeError, View.View}
use Rattle.cbor4ii_items.specs.InputError.{input_error_of}

-- the reader failed, or memory was refused
abbrev pub SaysNothing : {V E : Type 0} → Result V (DecodeError E) → Type 0
SaysNothing (Ok v) = ⊥
SaysNothing (Err e) = input_error_of e ≡ None

-- values that mean the same, or one error with the same fields
abbrev pub AlikeAs : {V E F : Type 0} → (V → V → Type 0) → Result V (DecodeError E)
    → Result V (DecodeError F) → Type 0
AlikeAs same (Ok v) (Ok w) = same v w
AlikeAs same (Err e) (Err f) = input_error_of e ≡ input_error_of f
AlikeAs same (Ok v) (Err f) = ⊥
AlikeAs same (Err e) (Ok w) = ⊥

-- one answer in full, and the same bytes are left; but where one of the two says nothing
abbrev pub SameAnswer : {V E F : Type 0} → (V → V → Type 0) → (new after : View)
    → Result V (DecodeError E) → Result V (DecodeError F) → Type 0
SameAnswer same new after r s =
    SaysNothing r ⊎ (SaysNothing s ⊎ (AlikeAs same r s × (new.known ≡ after.known)))
