-- Strings that are borrowed from the input.
use Rattle.std.specs.Prelude.{ℕ, ◌≡◌, ◌⊎◌, List, drop, true, false, codes, Result, IfOk, IfErr}
use Rattle.std.specs.Prelude.{IsErr, IsOkAnd, IsErrAnd, MatchResult}
use denote.Ref.{Bor}
use Rattle.cbor4ii_rw.specs.declared.error.DecodeError.{DecodeError as CoreError}
use Rattle.cbor4ii_rw.specs.declared.error.DecodeError.TheVariants.{RequireBorrowed, OutOfMemory}
use Rattle.cbor4ii_items.specs.declared.types.Bytes.{Bytes}
use Rattle.cbor4ii_items.specs.Cow.{cow_text, cow_bytes}
use Rattle.cbor4ii_items.specs.Decoding.{Reads, RejectsAt}
use Rattle.cbor4ii_items.specs.Budget.{CostFits}
use Rattle.cbor4ii_items.specs.Laws.Lent.{lent_lawful}
use Rattle.cbor4ii_items.specs.Laws.Strings.{two_small, three_small}
use Rattle.cbor4ii_items.specs.Lent.{lent_str, lent_bytes}
use Rattle.cbor4ii_items.specs.Strings.{ReadsAs, ReadsTextAs, RejectsString, RejectsText}
use Rattle.cbor4ii_items.specs.InputError.{require_borrowed}
use Rattle.cbor4ii.specs.declared.serde.de.error.DecodeError.{DecodeError}
use Rattle.cbor4ii.specs.declared.serde.de.error.DecodeError.TheVariants.{Core}
use Rattle.cbor4ii.specs.Typed.{as_core, Promise, typed_by, laws_of}

-- the reader does not lend the bytes
abbrev pub LacksLoan : {E : Type 0} → List ℕ → CoreError E → Type 0
LacksLoan name error = (found : Bor (List ℕ)) × (error ≡ RequireBorrowed found) × (found.now ≡ name)

-- It is rejected as one that may be a copy. Or it was read with a cost that fits, and is a copy: it
-- is taken then.
-- A string that is to be borrowed is rejected.
abbrev pub RejectsUnlent : {V : Type 0} → List ℕ → Reads V → RejectsAt → RejectsAt
RejectsUnlent {V} name reads rejects xs budget err rest =
    rejects xs budget err rest ⊎ ((v : V) × (n c : ℕ) × reads xs v n c × CostFits c budget
    × (err ≡ require_borrowed name) × (rest ≡ drop n xs))

-- a text of definite length that is to be borrowed, and likewise a byte string
abbrev pub unlent_text : Promise (Bor (List ℕ))
unlent_text = typed_by (RejectsUnlent (codes "str") (ReadsTextAs cow_text)
    (RejectsText (codes "str")))
    false true (laws_of (lent_lawful (codes "str") 3 three_small true lent_str))

abbrev pub unlent_bytes : Promise (Bytes (Bor (List ℕ)))
unlent_bytes = typed_by
    (RejectsUnlent (codes "bytes") (ReadsAs 2 cow_bytes) (RejectsString (codes "bytes") 2))
    false true
    (laws_of (lent_lawful (codes "bytes") 2 two_small false lent_bytes))

-- A string that was copied is rejected, and so is what was rejected before.
-- A string that was borrowed is handed on with its content.
pub record Borrows {V W E : Type 0} (content : V → List ℕ) (lent : W → List ℕ)
    (IsBorrowed IsOwned : V → Type 0) (name : List ℕ) (found : Result V (CoreError E))
    (answer : Result W (DecodeError E)) : Type 0 where
  pub handed : IfOk answer (λ w. IsOkAnd found (λ v. IsBorrowed v × (content v ≡ lent w)))
  pub rejected : IfErr answer (λ error. MatchResult found
      (λ v. IsOwned v × LacksLoan name (as_core error)) (λ before. as_core error ≡ before))

-- A copy is rejected, where the bytes are to be lent, and so is what was rejected before.
pub record RejectsCopy {V W E : Type 0} (name : List ℕ) (found : Result V (DecodeError E))
    (answer : Result W (DecodeError E)) : Type 0 where
  pub rejected : IsErr answer
  pub reason : IfErr answer
      (λ error. MatchResult found (λ v. LacksLoan name (as_core error)) (λ before. error ≡ before))

-- Without memory for that the error is `OutOfMemory`, and an earlier error is handed on as it is.
-- What was read is handed on with its content, in memory of its own.
pub record Copies {V W E : Type 0} (content : V → List ℕ) (copy : W → List ℕ) (IsOwned : W → Type 0)
    (found : Result V (DecodeError E)) (answer : Result W (DecodeError E)) : Type 0 where
  pub handed : IfOk answer (λ w. IsOkAnd found (λ v. IsOwned w × (copy w ≡ content v)))
  pub rejected : IfErr answer
      (λ error. MatchResult found (λ v. error ≡ Core OutOfMemory) (λ before. error ≡ before))

-- what stands in the `Bytes` is handed on, and an error as it is
pub record Unwraps {V E : Type 0} (found : Result (Bytes V) (CoreError E))
    (answer : Result V (DecodeError E)) : Type 0 where
  pub handed : IfOk answer (λ w. IsOkAnd found (λ v. v.0 ≡ w))
  pub rejected : IfErr answer (λ error. IsErrAnd found (λ before. as_core error ≡ before))
