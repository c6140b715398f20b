-- What a decoding call answers, where the reader reports its bytes.
use Rattle.std.specs.Prelude.{◌^◌, ◌<◌, length, ◌≡◌, ℕ, ◌≤◌, ◌⊎◌, Bool, List, drop, Some, Option}
use Rattle.std.specs.Prelude.{Result, IfSome, IfOk, IfErr, OnOk, IsTrue, true, false, take, ◌++◌}
use Rattle.std.specs.Prelude.{◌+◌}
use Rattle.cbor4ii_rw.specs.View.{View, IfKnown}
use Rattle.cbor4ii_rw.specs.declared.error.DecodeError.{DecodeError}
use Rattle.cbor4ii_items.specs.Budget.{CostFits}
use Rattle.cbor4ii_items.specs.InputError.{InputError, input_error_of, is_out_of_memory}
use Rattle.cbor4ii_items.specs.Moves.{Moves}

-- what a type reads: the bytes to come, the value, how many bytes it takes, and its cost in steps
abbrev pub Reads : Type 0 → Type 1
Reads V = List ℕ → V → ℕ → ℕ → Type 0

-- what a type rejects: the bytes to come, the budget, the error, and the bytes that are left
abbrev pub RejectsAt : Type 1
RejectsAt = List ℕ → Option ℕ → InputError → List ℕ → Type 0

-- a reading of v that fits the budget begins the bytes xs, and exactly its bytes were taken
pub record Accepted {V : Type 0} (reads : List ℕ → V → ℕ → ℕ → Type 0) (xs : List ℕ)
    (budget : Option ℕ) (new : Option (List ℕ)) (v : V) : Type 0 where
  pub count : ℕ
  pub cost : ℕ
  pub read : reads xs v count cost
  pub fits : CostFits cost budget
  pub left : new ≡ Some (drop count xs)

-- an accepted value is one that the known bytes begin with
pub record Sound {V : Type 0} (reads : List ℕ → V → ℕ → ℕ → Type 0) (old new : View)
    (v : V) : Type 0 where
  pub at : IfKnown old.known (λ xs. Accepted reads xs old.budget new.known v)

-- no reading that fits the budget begins the bytes
abbrev pub NoneRead : {V : Type 0} → (List ℕ → V → ℕ → ℕ → Type 0) → List ℕ → Option ℕ → Type 0
NoneRead {V} reads xs budget = (v : V) (n c : ℕ) → reads xs v n c → CostFits c budget → ⊥

-- an error that speaks of the bytes comes only where no reading that fits begins the known ones
pub record Complete {V E : Type 0} (reads : List ℕ → V → ℕ → ℕ → Type 0) (old : View)
    (error : DecodeError E) : Type 0 where
  pub at : IfKnown old.known (λ xs. IfSome (input_error_of error)
      (λ _. NoneRead reads xs old.budget))

-- an error that speaks of the bytes, and what it leaves, are those that the type gives there
pub record Rejects {E : Type 0} (rejects : List ℕ → Option ℕ → InputError → List ℕ → Type 0)
    (old new : View) (error : DecodeError E) : Type 0 where
  pub at : IfKnown old.known (λ xs. IfSome (input_error_of error)
      (λ err. (rest : List ℕ) × (new.known ≡ Some rest) × rejects xs old.budget err rest))

-- The type needs no borrowed slice, or the reader is zero-copy and one fill can ask for all bytes.
-- Acceptance by the type is exact over this reader.
abbrev pub IsExact : Bool → View → Type 0
IsExact owned view =
    IsTrue owned ⊎ (IsTrue view.zero_copy × IfKnown view.known (λ xs. length xs < 2 ^ 64))

-- what a type reads, and what it rejects
pub record Format (V : Type 0) : Type 1 where
  pub reads : List ℕ → V → ℕ → ℕ → Type 0
  -- the two values mean the same
  pub same : V → V → Type 0
  pub rejects : List ℕ → Option ℕ → InputError → List ℕ → Type 0
  -- as rejects, over any reader
  pub begins : List ℕ → Option ℕ → InputError → List ℕ → Type 0
  pub never_empty : Bool
  pub owned : Bool
  pub takes_memory : Bool
  pub closed : Bool

-- a type that borrows nothing, takes no memory, and whose values are compared as they are
abbrev pub leaf_format : {V : Type 0} → Reads V → RejectsAt → Format V
leaf_format reads rejects = record {
  reads = reads;
  same = λ v w. v ≡ w;
  rejects = rejects;
  begins = rejects;
  never_empty = true;
  owned = true;
  takes_memory = false;
  closed = true;
}

-- It borrows nothing, takes no memory, and its values are compared as they are.
-- A type that may take no byte, where what comes next says which.
abbrev pub looking_format : {V : Type 0} → Reads V → RejectsAt → Format V
looking_format reads rejects = record {
  reads = reads;
  same = λ v w. v ≡ w;
  rejects = rejects;
  begins = rejects;
  never_empty = false;
  owned = true;
  takes_memory = false;
  closed = false;
}

-- a type that is read and rejected as its part is
abbrev pub format_by : {U V : Type 0} → (V → U) → Format U → Format V
format_by part s = record {
  reads = λ xs v. s.reads xs (part v);
  same = λ v w. s.same (part v) (part w);
  rejects = s.rejects;
  begins = s.begins;
  never_empty = s.never_empty;
  owned = s.owned;
  takes_memory = s.takes_memory;
  closed = s.closed;
}

-- the type, where memory may be taken too
abbrev pub taking_memory : {V : Type 0} → Format V → Format V
taking_memory s = record {
  reads = s.reads;
  same = s.same;
  rejects = s.rejects;
  begins = s.begins;
  never_empty = s.never_empty;
  owned = s.owned;
  takes_memory = true;
  closed = s.closed;
}

-- one input is read in one way, what is read stands in it, and an encoding is read whatever follows
pub record IsLawful {V : Type 0} (format : Format V) : Type 0 where
  pub one : (xs : List ℕ) (v w : V) (n m c d : ℕ) → format.reads xs v n c
      → format.reads xs w m d → (n ≡ m) × (c ≡ d) × format.same v w
  pub within : (xs : List ℕ) (v : V) (n c : ℕ) → format.reads xs v n c → n ≤ length xs
  pub positive : IsTrue format.never_empty → (xs : List ℕ) (v : V) (n c : ℕ)
      → format.reads xs v n c → 1 ≤ n
  pub alone : IsTrue format.closed → (xs ys : List ℕ) (v : V) (n c : ℕ)
      → format.reads xs v n c → format.reads (take n xs ++ ys) v n c

-- a call that reads one item
pub record Decodes {V E : Type 0} (format : Format V) (old new : View)
    (answer : Result V (DecodeError E)) : Type 0 where
  pub moves : Moves old new answer
  pub progress : IsTrue format.never_empty → OnOk answer (new.bound + 1 ≤ old.bound)
  pub memory : IfErr answer (λ error. IsTrue (is_out_of_memory error)
      → IsTrue format.takes_memory)
  pub sound : IfOk answer (Sound format.reads old new)
  pub complete : IsExact format.owned old → IfErr answer (Complete format.reads old)
  pub rejects : IsExact format.owned old → IfErr answer (Rejects format.rejects old new)
  pub begins : IfErr answer (Rejects format.begins old new)

-- Where the type is not exact, what is rejected by a reading of its own, or over one kind of
-- reader, is not reported.
-- A call that reads one item of a type that may not be exact.
pub record DecodesIf {V E : Type 0} (exact : Bool) (format : Format V) (old new : View)
    (answer : Result V (DecodeError E)) : Type 0 where
  pub moves : Moves old new answer
  pub progress : IsTrue format.never_empty → OnOk answer (new.bound + 1 ≤ old.bound)
  pub memory : IfErr answer (λ error. IsTrue (is_out_of_memory error)
      → IsTrue format.takes_memory)
  pub sound : IfOk answer (Sound format.reads old new)
  pub complete : IsTrue exact → IsExact format.owned old
      → IfErr answer (Complete format.reads old)
  pub rejects : IsTrue exact → IsExact format.owned old
      → IfErr answer (Rejects format.rejects old new)
  pub begins : IfErr answer (Rejects format.begins old new)
