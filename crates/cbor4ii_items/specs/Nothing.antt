-- No item at all, and no byte.
use Rattle.std.proofs.Common.{◌≡◌, ℕ, ◌≤◌, List, ◌++◌, length, take, false, IsTrue, refl, sym, ◌∙◌}
use Rattle.std.proofs.Common.{arith}
use Rattle.cbor4ii_items.specs.declared.types.Nothing.{Nothing}
use Rattle.cbor4ii_items.specs.Decoding.{Reads, RejectsAt}

-- of any bytes none is taken
abbrev pub ReadsNothing : Reads Nothing
ReadsNothing xs v n c = (n ≡ 0) × (c ≡ 0)

-- no bytes are rejected
abbrev pub RejectsNothing : RejectsAt
RejectsNothing xs budget err rest = ⊥

pub nothing_one : (xs : List ℕ) (v w : Nothing) (n m c d : ℕ) → ReadsNothing xs v n c
    → ReadsNothing xs w m d → (n ≡ m) × (c ≡ d) × (v ≡ w)
nothing_one xs v w n m c d p q = (p.0 ∙ sym q.0, p.1 ∙ sym q.1, refl)

pub nothing_within : (xs : List ℕ) (v : Nothing) (n c : ℕ) → ReadsNothing xs v n c → n ≤ length xs
nothing_within xs v n c p = omega (arith, p.0)

pub nothing_positive : IsTrue false → (xs : List ℕ) (v : Nothing) (n c : ℕ) → ReadsNothing xs v n c
    → 1 ≤ n
nothing_positive e = cc

pub nothing_alone : (xs ys : List ℕ) (v : Nothing) (n c : ℕ) → ReadsNothing xs v n c
    → ReadsNothing (take n xs ++ ys) v n c
nothing_alone xs ys v n c p = p
