-- What a call writes whose answer was left in a slot.
use Rattle.std.proofs.Common.{◌≡◌, Option, Result, Ok, Err, Bool}
use Rattle.std.proofs.Common.{rules}
use Rattle.std.specs.Prelude.{IsErr, IfSome}
use Rattle.cbor4ii_rw.specs.Writer.{Output}
use Rattle.cbor4ii_ser.specs.declared.error.EncodeError.{EncodeError}
use Rattle.cbor4ii_ser.specs.Item.{Encoding, one_then}
use Rattle.cbor4ii_ser.specs.Serializing.{Serializes, done_or_answer}
use Rattle.cbor4ii_ser.specs.Laws.Joining.{serializes_err}

-- the first part failed
pub failed_then : {T E : Type 0} {atomic : Bool} {a : Encoding} (b : Encoding) {old new : Output}
    (r : Result T (EncodeError E)) → IsErr r → Serializes atomic a old new r
    → Serializes atomic (one_then a b) old new r
failed_then {a = a} b (Err e) is p = serializes_err a b p
failed_then b (Ok t) is p = search rules

-- the slot has the whole answer, where it said that all went well before
pub from_slot : {E : Type 0} {atomic : Bool} {a : Encoding} {old new : Output} (o : Option
    (Unit {0}))
    (left : Result (Unit {0}) (EncodeError E)) → IfSome o (λ _. left ≡ Ok tt)
    → Serializes atomic a old new (done_or_answer o left) → Serializes atomic a old new left
from_slot {atomic = atomic} {a = a} {old = old} {new = new} o left kept p = search rules
