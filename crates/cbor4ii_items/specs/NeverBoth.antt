-- What is rejected is not read.
use Rattle.std.specs.Prelude.{ℕ, List, Option}
use Rattle.cbor4ii_items.specs.InputError.{InputError}
use Rattle.cbor4ii_items.specs.Decoding.{Reads, RejectsAt, NoneRead}

-- where bytes are rejected, no reading that fits the budget begins them
abbrev pub NeverBoth : {V : Type 0} → Reads V → RejectsAt → Type 0
NeverBoth reads rejects =
    (xs : List ℕ) (budget : Option ℕ) (err : InputError) (rest : List ℕ)
    → rejects xs budget err rest → NoneRead reads xs budget
