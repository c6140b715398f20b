-- What arrays and maps are written as (RFC 8949 section 3.1).
use Rattle.std.specs.Prelude.{ℕ, List, [], ◌∷◌, ◌++◌, length}
use Rattle.cbor4ii_items.specs.Numbers.{shortest_head}

-- the bytes of each item, joined in order
abbrev pub items_bytes : {V : Type 0} → (V → List ℕ) → List V → List ℕ
items_bytes bytes [] = []
items_bytes bytes (v ∷ vs) = bytes v ++ items_bytes bytes vs

-- the shortest head with the count of the items, and the items
abbrev pub array_bytes : {V : Type 0} → (V → List ℕ) → List V → List ℕ
array_bytes bytes vs = shortest_head 4 (length vs) ++ items_bytes bytes vs

-- a key, and its value after it
abbrev pub pair_bytes : {K V : Type 0} → (K → List ℕ) → (V → List ℕ) → K × V → List ℕ
pair_bytes key value p = key p.0 ++ value p.1

-- the shortest head with the count of the pairs, and the pairs
abbrev pub map_bytes : {K V : Type 0} → (K → List ℕ) → (V → List ℕ) → List (K × V) → List ℕ
map_bytes key value ps = shortest_head 5 (length ps) ++ items_bytes (pair_bytes key value) ps
