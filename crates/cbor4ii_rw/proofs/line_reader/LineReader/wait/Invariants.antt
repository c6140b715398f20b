use Rattle.std.proofs.Common.{◌≡◌}
use Rattle.cbor4ii_rw.proofs.line_reader.LineReader.wait.Given as goal

-- no byte is taken, no failure is counted, and the steps stay
abbrev pub invariant-loop : goal.invariant-loop
invariant-loop g l = (l.self.ready.taken ≡ l.initial.self.ready.taken)
    × (l.self.failures ≡ l.initial.self.failures) × (l.self.steps ≡ l.initial.self.steps)
