use Rattle.std.proofs.Common.{◌≡◌, ◌≤◌, ◌+◌, ◌⊎◌, length}
use Rattle.cbor4ii_rw.specs.Segments.{joined_segments, rest_of}
use Rattle.cbor4ii_rw.specs.Stream.{most_bytes}
use Rattle.cbor4ii_rw.proofs.segment_reader.SegmentReader.remaining.Given as goal

-- the bytes of the segments before are counted, or as many as can be
abbrev pub invariant-loop-segments : goal.invariant-loop-segments
invariant-loop-segments l = (l.left ≤ most_bytes) ×
    ((l.left + length (joined_segments l.segments) ≡ length (rest_of l.fn.self)) ⊎
    ((l.left ≡ most_bytes) × (most_bytes ≤ length (rest_of l.fn.self))))

abbrev pub decreases-loop-segments : goal.decreases-loop-segments
decreases-loop-segments l = length l.segments
