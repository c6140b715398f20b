-- The content of strings, gathered in a vector.
use Rattle.std.specs.Prelude.{◌≡◌, ℕ, ◌≤◌, ◌++◌, List, length, take, drop, Some, Result, Ok, Err}
use Rattle.std.specs.declared.vec.Vec.{Vec}
use Rattle.cbor4ii_rw.specs.View.{View, IfKnown}
use Rattle.cbor4ii_items.specs.Moves.{Kept}

-- the answer, with a vector's items for the vector
abbrev pub items_answer : {Z E : Type 0} → Result (Vec ℕ Z) E → Result (List ℕ) E
items_answer (Ok v) = Ok v.items
items_answer (Err e) = Err e

-- the answer of a call that leaves these items in a vector
abbrev pub filled_answer : {T E : Type 0} → List ℕ → Result T E → Result (List ℕ) E
filled_answer items (Ok t) = Ok items
filled_answer items (Err e) = Err e

-- n of the missing bytes were taken, at least one, and follow the items that were there before
pub record TakesOnto (missing n : ℕ) (before after : List ℕ) (old new : View) : Type 0 where
  pub kept : Kept old new
  pub some : 1 ≤ n
  pub most : n ≤ missing
  pub at : IfKnown old.known
      (λ xs. (n ≤ length xs) × (new.known ≡ Some (drop n xs)) × (after ≡ before ++ take n xs))
