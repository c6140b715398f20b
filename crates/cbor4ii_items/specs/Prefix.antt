-- Heads that stand whole in a prefix of the bytes.
use Rattle.std.specs.Prelude.{◌≡◌, ℕ, ◌+◌, ◌<◌, ◌≤◌, ◌^◌, ◌++◌, List, length, take, drop, Option}
use Rattle.std.specs.Prelude.{Some, None, Result, Ok, Err}
use Rattle.cbor4ii_rw.specs.View.{View}
use Rattle.cbor4ii_items.specs.Moves.{ReaderFailed}
use Rattle.cbor4ii_items.specs.Head.{IsBytes}
use Rattle.cbor4ii_items.specs.Reading.{Reading, Runs}
use Rattle.cbor4ii_items.specs.ReadHead.{number_on, argument_size, head_at}
use Rattle.cbor4ii_items.specs.Lent.{Stays}
use Rattle.cbor4ii_items.specs.declared.prefix.Shown.{Shown}
use Rattle.cbor4ii_items.specs.declared.prefix.Shown.TheVariants.{Whole, Cut, Other}

-- the bytes of an argument, by the additional information, with others after them
pub record IsArgument (info : ℕ) (shown : List ℕ) (argument : ℕ) : Type 0 where
  pub within : argument_size info ≤ length shown
  pub fits : argument < 256 ^ argument_size info
  pub bytes : IsBytes (take (argument_size info) shown)
  pub number : (name rest : List ℕ) → number_on name (argument_size info)
      (argument_size info) 0 (shown ++ rest)
      ≡ Ok (argument, drop (argument_size info) shown ++ rest)

-- a head of this major type, n bytes long, with other bytes after it
pub record IsWholeHead (major width : ℕ) (shown : List ℕ) (argument n : ℕ) : Type 0 where
  pub some : 1 ≤ n
  pub within : n ≤ length shown
  pub fits : 1 ≤ width → argument < 256 ^ width
  pub bytes : IsBytes (take n shown)
  pub head : (name rest : List ℕ)
      → head_at name major width (shown ++ rest) ≡ Ok (argument, drop n shown ++ rest)

-- where a head is seen whole, it stands at the beginning
abbrev pub SeesHead : ℕ → ℕ → List ℕ → Shown → Type 0
SeesHead major width shown (Whole argument n) = IsWholeHead major width shown argument n
SeesHead major width shown (Cut n) = Unit {0}
SeesHead major width shown Other = Unit {0}

-- what the program reads was taken, or nothing was; or the reader failed
abbrev pub RunsOrStays : {V E : Type 0} → Reading V → View → View → Result (Option V) E → Type 0
RunsOrStays {V} {E} program old new (Ok (Some v)) = Runs {E = E} program old new (Ok v)
RunsOrStays {V} {E} program old new (Ok None) = Stays old new
RunsOrStays {V} {E} program old new (Err e) = ReaderFailed old new

-- a value that the program reads was taken, by whichever name, and it is small
pub record TookSeen (E : Type 0) (program : List ℕ → Reading ℕ) (small : ℕ → Type 0) (v : ℕ)
    (old new : View) : Type 0 where
  pub runs : (name : List ℕ) → Runs {E = E} (program name) old new (Ok v)
  pub fits : small v
  pub progress : new.bound + 1 ≤ old.bound

-- What was seen whole was taken, and of another nothing; or the reader failed.
abbrev pub TakesSeen : {E : Type 0} → (List ℕ → Reading ℕ) → (ℕ → Type 0) → View → View
    → Result Shown E → Type 0
TakesSeen {E} program small old new (Ok (Whole v n)) = TookSeen E program small v old new
TakesSeen {E} program small old new (Ok (Cut n)) = Stays old new
TakesSeen {E} program small old new (Ok Other) = Stays old new
TakesSeen {E} program small old new (Err e) = ReaderFailed old new
