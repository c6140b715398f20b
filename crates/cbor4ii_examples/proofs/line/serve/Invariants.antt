use Rattle.std.proofs.Common.{◌≡◌, ◌+◌, ◌≤◌}
use Rattle.cbor4ii_rw.specs.Line.{line_view, taken_of}
use Rattle.cbor4ii_examples.proofs.line.serve.Given as goal

-- each request that was answered took a byte at least
abbrev pub invariant-loop : goal.invariant-loop
invariant-loop g l = goal.F-IsAlwaysCallable g l.answer
    × (taken_of l.initial.reader + l.count ≤ taken_of l.reader)
    × ((line_view l.reader).budget ≡ (line_view l.initial.reader).budget)
