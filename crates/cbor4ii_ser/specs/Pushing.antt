-- What a call leaves that answers only whether it wrote, and leaves an error in a slot.
use Rattle.std.specs.Prelude.{◌≡◌, Bool, true, false, Option, IfNone, IfSome, Result, IsErr}
use Rattle.cbor4ii_rw.specs.Writer.{Output}
use Rattle.cbor4ii_ser.specs.Item.{Encoding}
use Rattle.cbor4ii_ser.specs.Serializing.{Serializes, AllOrNothing, done_or_answer}
use Rattle.cbor4ii_ser.specs.declared.error.EncodeError.{EncodeError}

-- what is said of a call that makes one push, and of no other
abbrev pub WhereOne : Bool → Type 0 → Type 0
WhereOne true P = P
WhereOne false P = Unit {0}

-- The test is whether the call makes one push; the last two are the slot before the call and after.
-- The item is written, and the slot is as it was; or it is not, and the slot has the error.
pub record Pushes {E : Type 0} (is_one atomic : Bool) (item : Encoding) (old new : Output)
    (result : Option (Unit {0})) (before after : Result (Unit {0}) (EncodeError E)) : Type 0 where
  pub writes : Serializes atomic item old new (done_or_answer result after)
  -- where it failed in its one push, known bytes of an atomic writer are as they were
  pub whole : WhereOne is_one (AllOrNothing atomic old new (done_or_answer result after))
  pub failed : IfNone result (IsErr after)
  pub kept : IfSome result (λ _. after ≡ before)

-- one push: a head, or a leaf that is no string
abbrev pub PushesOnce : {E : Type 0} → Bool → Encoding → Output → Output → Option (Unit {0})
    → Result (Unit {0}) (EncodeError E) → Result (Unit {0}) (EncodeError E) → Type 0
PushesOnce = Pushes true

-- as many pushes as there are heads and contents, or none
abbrev pub PushesInTurn : {E : Type 0} → Bool → Encoding → Output → Output → Option (Unit {0})
    → Result (Unit {0}) (EncodeError E) → Result (Unit {0}) (EncodeError E) → Type 0
PushesInTurn = Pushes false
