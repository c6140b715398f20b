-- Borrowed segments, one after another.
use Rattle.std.specs.Prelude.{ℕ, ◌+◌, true, List, [], ◌∷◌, ◌++◌, length, None, Some, nat_lt}
use Rattle.std.specs.Borrow.{Bor}
use Rattle.cbor4ii_rw.specs.View.{View}
use Rattle.cbor4ii_rw.specs.declared.segment_reader.SegmentReader.{SegmentReader}

-- the segments' bytes
abbrev pub joined_segments : List (Bor (List ℕ)) → List ℕ
joined_segments [] = []
joined_segments (segment ∷ others) = segment.now ++ joined_segments others

-- 1 for a segment that has bytes
abbrev pub count_of_full : List ℕ → ℕ
count_of_full [] = 0
count_of_full (byte ∷ bytes) = 1

-- how many segments have bytes
abbrev pub full_count : List (Bor (List ℕ)) → ℕ
full_count [] = 0
full_count (segment ∷ others) = count_of_full segment.now + full_count others

-- the first bytes, unless there are none; then the others
abbrev pub first_nonempty : List ℕ → List ℕ → List ℕ
first_nonempty [] others = others
first_nonempty (byte ∷ bytes) others = byte ∷ bytes

-- the first segment that has bytes
abbrev pub first_full : List (Bor (List ℕ)) → List ℕ
first_full [] = []
first_full (segment ∷ others) = first_nonempty segment.now (first_full others)

-- what is left of the segment that a reader stands in, or of the next that has bytes
abbrev pub shown_segment : SegmentReader → List ℕ
shown_segment reader = first_nonempty reader.current.now (first_full reader.segments.now)

-- the bytes that a reader has left
abbrev pub rest_of : SegmentReader → List ℕ
rest_of reader = reader.current.now ++ joined_segments reader.segments.now

-- how many of a reader's segments still have bytes
abbrev pub full_of : SegmentReader → ℕ
full_of reader = count_of_full reader.current.now + full_count reader.segments.now

-- It is zero-copy where at most one segment still has bytes.
-- A reader over segments reports all its bytes and never fails.
abbrev pub segment_view : SegmentReader → View
segment_view reader = record {
  known = Some (rest_of reader);
  bound = length (rest_of reader);
  advanceable = length reader.current.now;
  budget = Some reader.steps;
  failures = 0;
  taken = None;
  zero_copy = nat_lt (full_of reader) 2;
  remembers = true;
  ends_at = None;
}
