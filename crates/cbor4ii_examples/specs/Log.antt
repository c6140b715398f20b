-- The whole events at the beginning of a log, and where its reading stops.
use Rattle.std.specs.Prelude.{◌≡◌, ℕ, ◌+◌, ◌≤◌, ◌⊎◌, List, [], ◌∷◌, length, drop, Bool}
use Rattle.std.specs.Prelude.{false, Some, IfSome, IfNone, IsTrue}
use Rattle.std.specs.List.{FoldsTo}
use Rattle.cbor4ii_rw.specs.Errors.{is_eof}
use Rattle.cbor4ii_rw.specs.Input.{limit}
use Rattle.cbor4ii_items.specs.Decoding.{Reads, Format, NoneRead}
use Rattle.cbor4ii_items.specs.InputError.{eof, is_out_of_memory}
use Rattle.cbor4ii.specs.declared.serde.de.error.DecodeError.{DecodeError}
use Rattle.cbor4ii.specs.declared.serde.de.error.DecodeError.TheVariants.{Core, Custom}
use Rattle.cbor4ii.specs.First.{typed_error_of}
use Rattle.cbor4ii.specs.Typed.{as_core}
use Rattle.cbor4ii_rw.specs.declared.error.Len.{Len}
use Rattle.cbor4ii_examples.specs.declared.event.Event.{Event}
use Rattle.cbor4ii_examples.specs.declared.log.Batch.{Batch}
use Rattle.cbor4ii_examples.specs.declared.log.Fault.{Fault}

-- the error says that the input ends too early
abbrev pub says_cut : {E : Type 0} → DecodeError E → Bool
says_cut (Core error) = is_eof error
says_cut (Custom text) = false

-- the bytes are read as these values, one after another, each within the steps, and then the rest
abbrev pub IsSequenceOf : {V : Type 0} → Reads V → List ℕ → List V → List ℕ → Type 0
IsSequenceOf reads bytes [] rest = bytes ≡ rest
IsSequenceOf reads bytes (v ∷ vs) rest =
    (count cost : ℕ) × reads bytes v count cost × (cost ≤ limit)
    × IsSequenceOf reads (drop count bytes) vs rest

-- The bytes are read as no value, since they end too early.
pub record EndsEarly {V : Type 0} (format : Format V) (rest : List ℕ) : Type 0 where
  -- what was read
  pub name : List ℕ
  -- how many bytes are wanted
  pub expect : Len
  -- what is left then
  pub left : List ℕ
  -- the type gives this `Eof` there
  pub rejects : format.rejects rest (Some limit) (eof name expect) left
  -- no value begins the bytes
  pub none : NoneRead format.reads rest (Some limit)

-- Whole events from the beginning of the bytes, and a rest in which no other is whole.
pub record IsBatch (format : Format Event) (bytes : List ℕ) (batch : Batch) : Type 0 where
  -- what is left after the events
  pub rest : List ℕ
  -- the events stand one after another, and then comes the rest
  pub row : IsSequenceOf format.reads bytes batch.events.items rest
  -- so many bytes the events take
  pub taken : batch.taken + length rest ≡ length bytes
  -- nothing is left, or the beginning of an event that is cut
  pub cut : (rest ≡ []) ⊎ EndsEarly format rest

-- Whole events from the beginning of the bytes, and where the next one fails.
pub record Stops {E : Type 0} (format : Format Event) (bytes : List ℕ)
    (fault : Fault E) : Type 0 where
  -- the events before the fault
  pub before : List Event
  -- what is left after them
  pub rest : List ℕ
  -- the events stand one after another, and then comes the rest
  pub row : IsSequenceOf format.reads bytes before rest
  -- so many bytes the events take
  pub at : fault.at + length rest ≡ length bytes
  -- an error that speaks of the bytes comes only where no event begins the rest
  pub none : IfSome (typed_error_of fault.error) (λ _. NoneRead format.reads rest (Some limit))
  -- it is the one that the type gives there
  pub rejects : IfSome (typed_error_of fault.error)
      (λ err. (left : List ℕ) × format.rejects rest (Some limit) err left)

-- Whole events from the beginning of a part, and where the next one fails, other than by its end.
pub record IsFault {E : Type 0} (format : Format Event) (bytes : List ℕ)
    (fault : Fault E) : Type 0 where
  -- events before it, and why the next one fails
  pub stops : Stops format bytes fault
  -- the part does not end too early
  pub no_cut : says_cut fault.error ≡ false
  -- an error that says nothing of the bytes is want of memory
  pub memory : IfNone (typed_error_of fault.error)
      (IsTrue (is_out_of_memory (as_core fault.error)))

-- The bytes are whole events, one after another, and each was handed on.
pub record Replays {F : Type 0} (step : F → Event → F → Type 0) (format : Format Event)
    (handle : F) (bytes : List ℕ) : Type 0 where
  -- the events
  pub events : List Event
  -- they stand one after another, and nothing is left
  pub row : IsSequenceOf format.reads bytes events []
  -- the handler after the last of them
  pub last : F
  -- it was called with each event, in their order, and with nothing else
  pub handed : FoldsTo step handle events last

-- Whole events, each of which was handed on, and where the next one fails.
pub record ReplayStops {F E : Type 0} (step : F → Event → F → Type 0) (format : Format Event)
    (handle : F) (bytes : List ℕ) (fault : Fault E) : Type 0 where
  -- events before it, and why the next one fails
  pub stops : Stops format bytes fault
  -- the handler after the last of them
  pub last : F
  -- it was called with each event before the fault, in their order, and with nothing else
  pub handed : FoldsTo step handle stops.before last
