-- What is written is read back, and no encoding begins another.
use Rattle.std.specs.Prelude.{◌≡◌, ℕ, List, [], ◌∷◌, ◌++◌, length, max}
use Rattle.cbor4ii_items.specs.Decoding.{Reads}

-- these bytes, followed by anything, are read as the value, at this cost
abbrev pub ReadsBack : {V : Type 0} → Reads V → List ℕ → V → ℕ → Type 0
ReadsBack reads bytes v cost = (rest : List ℕ) → reads (bytes ++ rest) v (length bytes) cost

-- the greatest cost of one part, and 0 where there is none
abbrev pub greatest_part_cost : {P : Type 0} → (P → ℕ) → List P → ℕ
greatest_part_cost cost [] = 0
greatest_part_cost cost (p ∷ ps) = max (cost p) (greatest_part_cost cost ps)

-- the greater cost of a key and its value
abbrev pub pair_cost : {K V : Type 0} → (K → ℕ) → (V → ℕ) → K × V → ℕ
pair_cost key value p = max (key p.0) (value p.1)

-- bytes that are read whole do not begin longer bytes that are
abbrev pub NoneBeginsAnother : {V : Type 0} → Reads V → Type 0
NoneBeginsAnother {V} reads =
    (xs more : List ℕ) (v w : V) (c d : ℕ) → reads xs v (length xs) c
    → reads (xs ++ more) w (length (xs ++ more)) d → more ≡ []
