-- What an encoding call leaves in the writer.
use Rattle.std.specs.Prelude.{◌≡◌, ◌⊎◌, ℕ, List, ◌++◌, Bool, Option, Some, Result, OnOk, OnErr}
use Rattle.std.specs.Prelude.{IsTrue}
use Rattle.std.specs.Io.{StartsWith}
use Rattle.cbor4ii_rw.specs.View.{IfKnown}
use Rattle.cbor4ii_rw.specs.Reader.{Failed, Keeps}
use Rattle.cbor4ii_rw.specs.Writer.{Output, Appends}

-- known bytes stay known, and have a beginning of these bytes after them
abbrev pub AppendsPrefix : List ℕ → Option (List ℕ) → Option (List ℕ) → Type 0
AppendsPrefix bytes old new =
    IfKnown old (λ xs. (prefix : List ℕ) × StartsWith bytes prefix × (new ≡ Some (xs ++ prefix)))

-- Where a writer that is atomic failed, it has a beginning of them.
-- The call wrote the bytes, or the writer failed in it.
pub record Writes {T E : Type 0} (atomic : Bool) (bytes : List ℕ) (old new : Output)
    (answer : Result T E) : Type 0 where
  pub appends : OnOk answer (Appends bytes old.written new.written)
  pub counts : OnOk answer (new.failures ≡ old.failures)
  pub failed : OnErr answer (Failed old.failures new.failures)
  pub prefix : IsTrue atomic → OnErr answer (AppendsPrefix bytes old.written new.written)

-- `Writes` in one push: where an atomic writer failed, known bytes are as they were
pub record WritesAtomically {T E : Type 0} (atomic : Bool) (bytes : List ℕ) (old new : Output)
    (answer : Result T E) : Type 0 where
  pub writes : Writes atomic bytes old new answer
  pub kept : IsTrue atomic → OnErr answer (Keeps old.written new.written)

-- Of an atomic writer that failed known bytes are as they were, or have the first after them.
-- One push writes the first bytes, and another what follows them.
abbrev pub InTwoPushes : {T E : Type 0} → Bool → List ℕ → Output → Output → Result T E → Type 0
InTwoPushes atomic first old new answer = IsTrue atomic → OnErr answer
    (Keeps old.written new.written ⊎ Appends first old.written new.written)
