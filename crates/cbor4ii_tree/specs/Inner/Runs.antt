-- Runs: items one after another, of which each takes one step.
use Rattle.std.specs.Prelude.{◌≡◌, ◌+◌, ◌≤◌, ℕ, List, ◌++◌, length, take, drop}
use Rattle.cbor4ii_tree.specs.Basis.Tree.{Tree, Trees, count, bytes, bytes_all, Loose}
use Rattle.cbor4ii_tree.specs.{Basis.Cost.skip_cost, Calls.Rejections.Each}

-- an item that takes one step
abbrev pub IsItemLeaf : Tree → Type 0
IsItemLeaf t = Loose t × (skip_cost t ≡ 1)

-- an item that takes one step was taken
abbrev pub SkipsLeaf : List ℕ → List ℕ → Type 0
SkipsLeaf xs ys = (t : Tree) × IsItemLeaf t × (xs ≡ bytes t ++ ys)

-- the bytes of so many items that take one step each
abbrev pub IsRun : ℕ → List ℕ → Type 0
IsRun n xs = (ts : Trees) × (count ts ≡ n) × Each IsItemLeaf ts × (xs ≡ bytes_all ts)

-- an item that takes one step stands at this place
pub record IsLeafAt (at size : ℕ) (shown : List ℕ) : Type 0 where
  pub within : at + size ≤ length shown
  pub leaf : (t : Tree) × IsItemLeaf t × (take size (drop at shown) ≡ bytes t)

-- so many items that take one step each stand at the beginning, in so many bytes
pub record BeginsRun (n size : ℕ) (shown : List ℕ) : Type 0 where
  pub within : size ≤ length shown
  pub few : n ≤ size
  pub run : IsRun n (take size shown)

-- so many items that take one step each were taken
abbrev pub SkipsRun : ℕ → List ℕ → List ℕ → Type 0
SkipsRun n xs ys = (ts : Trees) × (count ts ≡ n) × Each IsItemLeaf ts × (xs ≡ bytes_all ts ++ ys)
