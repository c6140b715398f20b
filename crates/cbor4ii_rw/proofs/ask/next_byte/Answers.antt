use Rattle.std.proofs.Common.{rules, arith, ℕ, ◌≤◌, List, [], ◌∷◌, length, slice_index_or}
use Rattle.std.proofs.Common.{ap}
use Rattle.std.specs.Io.{StartsWith}
use Rattle.cbor4ii_rw.proofs.ask.next_byte.Goals as goal

first_begins : (bytes xs : List ℕ) → 1 ≤ length bytes → StartsWith xs bytes
    → StartsWith xs (slice_index_or bytes 0 0 ∷ [])
first_begins [] xs some begins = absurd (omega (arith, some))
first_begins (byte ∷ bytes) [] some begins = absurd (search (begins, rules))
first_begins (byte ∷ bytes) (x ∷ xs) some begins = ap (λ b. b ∷ []) (search (begins, rules))

pub returns-clause-byte : goal.returns-clause-byte
returns-clause-byte g c = search (rules, first_begins)
