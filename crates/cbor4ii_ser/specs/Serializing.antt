-- What a serializing call leaves in the writer.
use Rattle.std.specs.Prelude.{◌≡◌, Bool, Option, Some, None, Result, Ok, OnOk, OnErr, IfErr}
use Rattle.std.specs.Prelude.{IsTrue}
use Rattle.cbor4ii_rw.specs.Reader.{Failed, Keeps}
use Rattle.cbor4ii_rw.specs.Writer.{Output, Appends}
use Rattle.cbor4ii_items.specs.Writing.{AppendsPrefix}
use Rattle.cbor4ii_ser.specs.Item.{Encoding, bytes_written, IsEncodedAnd, IsRejectedAnd}
use Rattle.cbor4ii_ser.specs.declared.error.EncodeError.{EncodeError}
use Rattle.cbor4ii_ser.specs.declared.error.EncodeError.TheVariants.{Core, Custom}
use Rattle.cbor4ii_ser.specs.declared.serializer.Serializer.{Serializer}

-- what the writer of a serializer reports; the first argument is how it reports it
abbrev pub output : {W : Type 0} → (W → Output) → Serializer W → Output
output view ser = view ser.writer

-- Where the value is rejected, what stands before that is appended, and the writer did not fail.
-- Why a call failed: the writer did, or the value is rejected in these words.
abbrev pub Blames : {E : Type 0} → Encoding → Output → Output → EncodeError E → Type 0
Blames item old new (Core error) = Failed old.failures new.failures
Blames item old new (Custom text) =
    IsRejectedAnd item (λ bytes words. Appends bytes old.written new.written × (text.now ≡ words))
    × (new.failures ≡ old.failures)

-- Where the value is rejected, the call says so in its words after exactly what stands before that.
-- Where the writer failed, one that is atomic has a beginning of all that is to be written.
-- The call wrote the item, or the writer failed in it, or the value is rejected.
pub record Serializes {T E : Type 0} (atomic : Bool) (item : Encoding) (old new : Output)
    (answer : Result T (EncodeError E)) : Type 0 where
  pub appends : OnOk answer (IsEncodedAnd item (λ bytes. Appends bytes old.written new.written))
  pub counts : OnOk answer (new.failures ≡ old.failures)
  pub failed : IfErr answer (Blames item old new)
  pub prefix : IsTrue atomic
      → OnErr answer (AppendsPrefix (bytes_written item) old.written new.written)

-- in one push: where the call failed, known bytes of an atomic writer are as they were
abbrev pub AllOrNothing : {T E : Type 0} → Bool → Output → Output → Result T E → Type 0
AllOrNothing atomic old new answer = IsTrue atomic → OnErr answer (Keeps old.written new.written)

-- where the answer is a text, the value is rejected in these words
abbrev pub SaysWhy : {E : Type 0} → Encoding → EncodeError E → Type 0
SaysWhy item (Core error) = Unit {0}
SaysWhy item (Custom text) = IsRejectedAnd item (λ bytes words. text.now ≡ words)

-- The key is written, and the call failed in the value after it.
pub record RejectsAtValue {E : Type 0} (atomic : Bool) (key value : Encoding) (old new : Output)
    (answer : Result (Unit {0}) (EncodeError E)) : Type 0 where
  pub between : Output
  pub first : Serializes {T = Unit {0}} {E = E} atomic key old between (Ok tt)
  pub second : Serializes atomic value between new answer

-- done, or an answer that was left
abbrev pub done_or_answer : {E : Type 0} → Option (Unit {0}) → Result (Unit {0}) (EncodeError E)
    → Result (Unit {0}) (EncodeError E)
done_or_answer (Some u) left = Ok u
done_or_answer None left = left
