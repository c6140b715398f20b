-- What it is to skip an item: these bytes are those of a loose tree.
use Rattle.std.specs.Prelude.{◌≡◌, ℕ, List, ◌++◌, length, drop}
use Rattle.cbor4ii_tree.specs.{declared.ignored.IgnoredAny.IgnoredAny, Basis.Tree.{Tree, bytes}}
use Rattle.cbor4ii_tree.specs.{Basis.Tree.Loose, Basis.Cost.skip_cost}

-- the first n bytes are those of a loose tree, whose skip cost is c
pub record ReadsTree (xs : List ℕ) (n c : ℕ) : Type 0 where
  pub of_tree : Tree
  pub loose : Loose of_tree
  pub begins : xs ≡ bytes of_tree ++ drop n xs
  pub size : n ≡ length (bytes of_tree)
  pub cost : c ≡ skip_cost of_tree

-- a loose tree begins the bytes
abbrev pub ReadsIgnored : List ℕ → IgnoredAny → ℕ → ℕ → Type 0
ReadsIgnored xs v n c = ReadsTree xs n c
