-- What the readers and the writers for tests report.
use Rattle.std.specs.Prelude.{length, None, Some, true, false, if◌then◌else◌}
use Rattle.cbor4ii_rw.specs.View.{View}
use Rattle.cbor4ii_rw.specs.Writer.{Output}
use Rattle.cbor4ii_vectors.specs.declared.readers.TestReader.{TestReader}
use Rattle.cbor4ii_vectors.specs.declared.readers.Counting.{Counting}
use Rattle.cbor4ii_vectors.specs.declared.readers.Asked.{Asked}
use Rattle.cbor4ii_vectors.specs.declared.writers.FailingWriter.{FailingWriter}
use Rattle.cbor4ii_vectors.specs.declared.writers.PushLengths.{PushLengths}

-- It counts its failures, and reports no byte once it has forgotten them. It is zero-copy where it
-- shows all that is left for as long as the input, at each fill.
-- What a test reader reports.
abbrev pub test_view : TestReader → View
test_view reader = record {
  known = if reader.has_forgotten then None else Some reader.bytes.now;
  bound = length reader.bytes.now;
  advanceable = length reader.bytes.now;
  budget = reader.steps;
  failures = reader.failures;
  taken = None;
  zero_copy = if reader.takes_turns then false
      else if reader.is_long then reader.is_whole else false;
  remembers = if reader.forgets then false else true;
  ends_at = None;
}

abbrev pub counting_view : Counting → View
counting_view reader = record {
  known = Some reader.bytes.now;
  bound = length reader.bytes.now;
  advanceable = length reader.bytes.now;
  budget = None;
  failures = 0;
  taken = None;
  zero_copy = false;
  remembers = true;
  ends_at = None;
}

abbrev pub asked_view : Asked → View
asked_view reader = record {
  known = Some reader.bytes.now;
  bound = length reader.bytes.now;
  advanceable = length reader.bytes.now;
  budget = None;
  failures = reader.failures;
  taken = None;
  zero_copy = false;
  remembers = true;
  ends_at = None;
}

abbrev pub failing_output : FailingWriter → Output
failing_output writer = record { written = Some writer.bytes.items; failures = writer.failures }

-- what a writer of push lengths reports: its failures, and no byte
abbrev pub pushed_output : PushLengths → Output
pushed_output writer = record { written = None; failures = writer.failures }
