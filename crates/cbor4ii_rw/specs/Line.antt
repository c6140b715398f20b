-- What a reader over a line reports: none of its bytes, but how many were taken.
use Rattle.std.specs.Prelude.{ℕ, ◌-◌, List, take, None, Some, false}
use Rattle.cbor4ii_rw.specs.View.{View}
use Rattle.cbor4ii_rw.specs.Stream.{most_bytes}
use Rattle.cbor4ii_rw.specs.declared.line_reader.Ready.{Ready}
use Rattle.cbor4ii_rw.specs.declared.line_reader.LineReader.{LineReader}

-- the bytes that were received and not taken
abbrev pub line_ready_bytes : Ready → List ℕ
line_ready_bytes ready = take ready.count ready.room.items

-- the line behind the reader
abbrev pub line_of : {L : Type 0} → LineReader L → L
line_of reader = reader.line

-- how many bytes were taken in all
abbrev pub taken_of : {L : Type 0} → LineReader L → ℕ
taken_of reader = reader.ready.taken

abbrev pub line_view : {L : Type 0} → LineReader L → View
line_view reader = record {
  known = None;
  bound = most_bytes - reader.ready.taken;
  advanceable = reader.ready.count;
  budget = Some reader.steps;
  failures = reader.failures;
  taken = Some reader.ready.taken;
  zero_copy = false;
  remembers = false;
  ends_at = None;
}
