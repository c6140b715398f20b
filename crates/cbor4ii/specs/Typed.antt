-- What reading a typed value answers, reported in the codec's own words.
use Rattle.std.specs.Prelude.{ℕ, ◌≡◌, ◌+◌, ◌^◌, ◌≤◌, List, Bool, true, false, IsTrue, Result, Ok}
use Rattle.std.specs.Prelude.{Err, OnOk, IfOk, IfErr, refl}
use Rattle.std.specs.declared.alloc.Global.{Global}
use Rattle.std.specs.declared.vec.Vec.{Vec}
use Rattle.cbor4ii_rw.specs.View.{View}
use Rattle.cbor4ii_rw.specs.declared.error.DecodeError.{DecodeError as CoreError}
use Rattle.cbor4ii_rw.specs.declared.error.DecodeError.TheVariants.{Custom as CoreCustom}
use Rattle.cbor4ii_items.specs.Decoding.{Reads, RejectsAt, Format, IsLawful, IsExact, Sound}
use Rattle.cbor4ii_items.specs.Decoding.{Complete, Rejects}
use Rattle.cbor4ii_items.specs.Moves.{Moves}
use Rattle.cbor4ii_items.specs.InputError.{InputError, custom, is_out_of_memory}
use Rattle.cbor4ii.specs.declared.serde.de.error.DecodeError.{DecodeError}
use Rattle.cbor4ii.specs.declared.serde.de.error.DecodeError.TheVariants.{Core, Custom}
use Rattle.cbor4ii.specs.declared.serde.de.deserializer.Deserializer.{Deserializer}

-- what the reader of a deserializer reports
abbrev pub input : {S : Type 0} → (S → View) → Deserializer S → View
input view de = view de.reader

-- a number that no error of the codec has, since it is above u32's greatest
abbrev pub no_number : ℕ
no_number = 2 ^ 32

-- a typed value's error in words, which is none of the codec's
abbrev pub in_words : List ℕ → InputError
in_words text = custom text no_number

-- an error, as one of the codec's; no two are reported as one
abbrev pub as_core : {E : Type 0} → DecodeError E → CoreError E
as_core (Core error) = error
as_core (Custom text) = CoreCustom text no_number

-- an answer, as one of the codec's
abbrev pub answer_of : {V E : Type 0} → Result V (DecodeError E) → Result V (CoreError E)
answer_of (Ok v) = Ok v
answer_of (Err error) = Err (as_core error)

-- an answer with a vector, as one of the codec's with its parts
abbrev pub parts_answer : {P E : Type 0} → Result (Vec P Global) (DecodeError E)
    → Result (List P) (CoreError E)
parts_answer (Ok v) = Ok v.items
parts_answer (Err error) = Err (as_core error)

-- ---- what a type promises

-- The first relation rejects where acceptance is exact, and the second over every reader.
-- A format that reads a byte, and is rejected by these relations.
abbrev pub format_of : {V : Type 0} → Reads V → (V → V → Type 0) → (rejects begins : RejectsAt)
    → (owned : Bool) → (takes_memory : Bool) → Format V
format_of reads same rejects begins owned takes_memory = record {
  reads = reads;
  same = same;
  rejects = rejects;
  begins = begins;
  never_empty = true;
  owned = owned;
  takes_memory = takes_memory;
  closed = false;
}

-- a format that reads a byte, and is rejected alike over every reader
abbrev pub typed_format : {V : Type 0} → Reads V → (V → V → Type 0) → RejectsAt → (owned : Bool)
    → (takes_memory : Bool) → Format V
typed_format reads same rejects = format_of reads same rejects rejects

-- What a type promises of the bytes. How they are rejected is what `begins` of its format says.
pub record Promise (V : Type 0) : Type 1 where
  pub format : Format V
  -- the format says exactly what is accepted
  pub exact : Bool
  -- it says how all else is rejected, which an exact type does
  pub known : Bool
  pub reports : IsTrue exact → IsTrue known
  -- a value takes a byte
  pub some : IsTrue format.never_empty
  -- one input is read in one way, and what is read stands in it
  pub lawful : IsTrue exact → IsLawful format

-- a type that reads exactly what its format says
abbrev pub exact_promise : {V : Type 0} {format : Format V} → IsTrue format.never_empty
    → IsLawful format → Promise V
exact_promise {format = format} some lawful = record {
  format = format;
  exact = true;
  known = true;
  reports = λ _. refl;
  some = some;
  lawful = λ _. lawful;
}

-- any two values
abbrev pub any_two : {V : Type 0} → V → V → Type 0
any_two v w = Unit {0}

-- a reading of which nothing is said
abbrev pub unsaid_reads : {V : Type 0} → Reads V
unsaid_reads xs v n c = Unit {0}

-- an error of which nothing is said
abbrev pub unsaid_rejects : RejectsAt
unsaid_rejects xs budget err rest = Unit {0}

-- what is asked of an exact type is owed by no other
pub not_exact : {Q : Type 0} → IsTrue false → Q
not_exact h = let no : false ≡ true = h in cc

-- nothing is promised of the bytes
abbrev pub no_promise : {V : Type 0} → Promise V
no_promise = record {
  format = typed_format unsaid_reads any_two unsaid_rejects true true;
  exact = false;
  known = false;
  reports = not_exact;
  some = refl;
  lawful = not_exact;
}

-- what a type that reports its errors says of them; of any other nothing is said
abbrev pub rejects_if_known : Bool → RejectsAt → RejectsAt
rejects_if_known known rejects xs budget err rest = IsTrue known → rejects xs budget err rest

-- how a type that says it rejects bytes, over any reader
abbrev pub rejects_as_promised : {V : Type 0} → Promise V → RejectsAt
rejects_as_promised promise = rejects_if_known promise.known promise.format.begins

-- A call that reads one value, as its type promises.
pub record Deserializes {V E : Type 0} (promise : Promise V) (old new : View)
    (answer : Result V (CoreError E)) : Type 0 where
  -- The budget is as before, the bytes that are left are an end of those that were there, and no
  -- more can come than before.
  pub moves : Moves old new answer
  -- an accepted value took a byte
  pub progress : OnOk answer (new.bound + 1 ≤ old.bound)
  -- want of memory is reported only by a type that may take memory
  pub memory : IfErr answer (λ error. IsTrue (is_out_of_memory error)
      → IsTrue promise.format.takes_memory)
  -- an accepted value is one that the bytes begin with
  pub sound : IfOk answer (Sound promise.format.reads old new)
  -- Of an exact type, where acceptance is exact, an error that speaks of the bytes comes only where
  -- no value whose steps fit the budget begins them.
  pub complete : IsTrue promise.exact → IsExact promise.format.owned old
      → IfErr answer (Complete promise.format.reads old)
  -- Of an exact type, where acceptance is exact, such an error is the one that the type gives for
  -- all of the bytes, and leaves what the type leaves then.
  pub rejects : IsTrue promise.exact → IsExact promise.format.owned old
      → IfErr answer (Rejects promise.format.rejects old new)
  -- Of a type that reports its errors, an error that speaks of the bytes is the one that the type
  -- gives there, and leaves what the type leaves then.
  pub begins : IsTrue promise.known → IfErr answer (Rejects promise.format.begins old new)

-- ---- laws

-- a reading alone, of whose errors nothing is said
abbrev pub reading_format : {V : Type 0} → Reads V → (V → V → Type 0) → (never_empty : Bool)
    → Format V
reading_format reads same never_empty = record {
  reads = reads;
  same = same;
  rejects = unsaid_rejects;
  begins = unsaid_rejects;
  never_empty = never_empty;
  owned = true;
  takes_memory = true;
  closed = false;
}

-- Where no reading is empty a byte is read.
-- One input is read in one way, and what is read stands in the input.
abbrev pub IsLawfulReading : {V : Type 0} → Reads V → (V → V → Type 0) → (never_empty : Bool)
    → Type 0
IsLawfulReading reads same never_empty = IsLawful (reading_format reads same never_empty)

-- a format that says nothing else of what is read has these laws too
pub laws_of : {V : Type 0} {format : Format V} → IsLawful format
    → IsLawfulReading format.reads format.same format.never_empty
laws_of h = record {
  one = h.one;
  within = h.within;
  positive = h.positive;
  alone = not_exact;
}

pub typed_laws : {V : Type 0} (promise : Promise V) → IsTrue promise.exact
    → IsLawfulReading promise.format.reads promise.format.same true
typed_laws promise is =
    let h = promise.lawful is in
    record {
      one = h.one;
      within = h.within;
      positive = λ _. h.positive promise.some;
      alone = not_exact;
    }

-- a type that has these laws
pub lawful_as : {V : Type 0} {reads : Reads V} {same : V → V → Type 0}
    {rejects begins : RejectsAt} {owned takes_memory : Bool} → IsLawfulReading reads same true
    → IsLawful (format_of reads same rejects begins owned takes_memory)
lawful_as h = record {
  one = h.one;
  within = h.within;
  positive = h.positive;
  alone = not_exact;
}

-- an exact type that has these laws
abbrev pub typed_by : {V : Type 0} {reads : Reads V} {same : V → V → Type 0} → RejectsAt
    → (owned takes_memory : Bool) → IsLawfulReading reads same true → Promise V
typed_by {reads = reads} {same = same} rejects owned takes_memory laws = exact_promise
    {format = typed_format reads same rejects owned takes_memory} refl (lawful_as laws)
