-- What a reader over one slice reports.
use Rattle.std.specs.Prelude.{length, None, Some, true}
use Rattle.cbor4ii_rw.specs.View.{View, place_after}
use Rattle.cbor4ii_rw.specs.declared.slice_reader.SliceReader.{SliceReader}

-- It lends them without a copy, and never fails.
-- A reader over a slice reports all its bytes and the place of their end.
abbrev pub slice_view : SliceReader → View
slice_view reader = record {
  known = Some reader.bytes.now;
  bound = length reader.bytes.now;
  advanceable = length reader.bytes.now;
  budget = Some reader.steps;
  failures = 0;
  taken = None;
  zero_copy = true;
  remembers = true;
  ends_at = Some (place_after reader.bytes);
}
