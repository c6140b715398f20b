-- Numbers below a limit.
use Rattle.std.proofs.Common.{◌≡◌, ℕ, ◌≤◌, List, Ok, Err, Bool, true, false, refl, cond, ltb}
use Rattle.std.proofs.Common.{ltb-true, ltb-false, ◌<◌, rules}
use Rattle.cbor4ii_items.specs.InputError.{InputError, cast_overflow}
use Rattle.cbor4ii_items.specs.Reading.{give, reject}
use Rattle.cbor4ii_items.specs.ReadNumber.{below}
use Rattle.cbor4ii_items.specs.Laws.Outcome.{same_value, same_input_error}

below_by : (t : Bool) (name : List ℕ) (limit v k : ℕ) (ys zs : List ℕ) → ltb v limit ≡ t
    → cond t (give v) (reject (cast_overflow name)) ys ≡ Ok (k, zs)
    → (v ≡ k) × (ys ≡ zs) × (v < limit)
below_by true name limit v k ys zs h e =
    let p = same_value (Ok (v, ys)) refl e in (p.0, p.1, ltb-true v limit h)
below_by false name limit v k ys zs h e = cc

pub below_ok : (name : List ℕ) (limit v k : ℕ) (ys zs : List ℕ) → below name limit v ys ≡ Ok (k, zs)
    → (v ≡ k) × (ys ≡ zs) × (v < limit)
below_ok name limit v k ys zs e = below_by (ltb v limit) name limit v k ys zs refl e

above_by : (t : Bool) (name : List ℕ) (limit v : ℕ) (z : InputError) (ys zs : List ℕ) →
    ltb v limit ≡ t
    → cond t (give v) (reject (cast_overflow name)) ys ≡ Err (z, zs)
    → (cast_overflow name ≡ z) × (ys ≡ zs) × (limit ≤ v)
above_by true name limit v z ys zs h e = cc
above_by false name limit v z ys zs h e = search (rules, same_input_error, ltb-false)

pub below_err : (name : List ℕ) (limit v : ℕ) (z : InputError) (ys zs : List ℕ)
    → below name limit v ys ≡ Err (z, zs) → (cast_overflow name ≡ z) × (ys ≡ zs) × (limit ≤ v)
below_err name limit v z ys zs e = above_by (ltb v limit) name limit v z ys zs refl e
