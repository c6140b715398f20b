use Rattle.std.proofs.Common.{◌≡◌, length}
use Rattle.cbor4ii_rw.specs.Segments.{rest_of, full_of, shown_segment}
use Rattle.cbor4ii_rw.proofs.segment_reader.SegmentReader.pass_empty.Given as goal

-- the segments before were empty
abbrev pub invariant-loop-first : goal.invariant-loop-first
invariant-loop-first l = (rest_of l.self ≡ rest_of l.fn.self) × (full_of l.self ≡ full_of l.fn.self)
    × (shown_segment l.self ≡ shown_segment l.fn.self) × (l.self.steps ≡ l.fn.self.steps)

abbrev pub decreases-loop-first : goal.decreases-loop-first
decreases-loop-first l = length l.self.segments.now
