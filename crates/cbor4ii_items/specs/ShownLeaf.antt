-- Values that a look shows whole (RFC 8949 sections 3.1 and 3.3).
use Rattle.std.specs.Prelude.{ℕ, ◌≤◌, ◌++◌, List, length}
use Rattle.cbor4ii_items.specs.Decoding.{Reads}

-- Whatever follows the shown bytes, it is read from the first of them, in at most so many steps.
-- a value that stands whole in what is shown, and how many bytes it has
pub record IsShownLeaf {V : Type 0} (reads : Reads V) (shown : List ℕ) (steps : ℕ)
    (found : V × ℕ) : Type 0 where
  pub some : 1 ≤ found.1
  pub within : found.1 ≤ length shown
  pub cost : ℕ
  pub fits : cost ≤ steps
  pub read : (rest : List ℕ) → reads (shown ++ rest) found.0 found.1 cost
