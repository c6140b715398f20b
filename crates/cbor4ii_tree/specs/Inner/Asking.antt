-- Where reading the parts of a value asks for memory.
use Rattle.std.specs.Prelude.{ℕ, ◌≤◌, ◌⊎◌, List, Bool}
use Rattle.cbor4ii_tree.specs.Calls.Asking.{InValue, Values}

-- memory is asked for in a tag's value, or for its place
abbrev pub InTagged : Bool → List ℕ → List ℕ → Type 0
InTagged canonical xs ys = Values canonical 1 xs ys ⊎ InValue canonical xs ys

-- memory is asked for in values one after another, or for places after so many of them at least
abbrev pub InParts : Bool → ℕ → List ℕ → List ℕ → Type 0
InParts canonical least xs ys = ((k : ℕ) × (least ≤ k) × Values canonical k xs ys)
    ⊎ ((k : ℕ) × (us : List ℕ) × Values canonical k xs us × InValue canonical us ys)
