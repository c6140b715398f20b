-- One outcome of a program says one thing.
use Rattle.std.proofs.Common.{◌≡◌, ℕ, List, Result, Ok, Err, rules}
use Rattle.cbor4ii_items.specs.InputError.{InputError}

-- the same value, and the same bytes left
pub same_value : {V : Type 0} {v w : V} {xs ys : List ℕ}
    (outcome : Result (V × List ℕ) (InputError × List ℕ)) → outcome ≡ Ok (v, xs) → outcome ≡ Ok
    (w, ys)
    → (v ≡ w) × (xs ≡ ys)
same_value {V} {v = v} {w = w} {xs = xs} {ys = ys} outcome p q = search rules

-- the same error, and the same bytes left
pub same_input_error : {V : Type 0} {y z : InputError} {xs ys : List ℕ}
    (outcome : Result (V × List ℕ) (InputError × List ℕ)) → outcome ≡ Err (y, xs)
    → outcome ≡ Err (z, ys) → (y ≡ z) × (xs ≡ ys)
same_input_error {y = y} {z = z} {xs = xs} {ys = ys} outcome p q = search rules

-- a value and an error are two outcomes
pub never_twice : {V : Type 0} {p : V × List ℕ} {q : InputError × List ℕ}
    (outcome : Result (V × List ℕ) (InputError × List ℕ)) → outcome ≡ Ok p → outcome ≡ Err q → ⊥
never_twice outcome p q = cc
