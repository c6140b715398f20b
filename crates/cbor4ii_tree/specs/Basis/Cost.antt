-- Steps: what a budget bounds, so that hostile nesting ends (RFC 8949 section 10).
use Rattle.std.specs.Prelude.{ℕ, zero, suc, ◌+◌, max, Option, Some, None}
use Rattle.cbor4ii_tree.specs.Basis.Tree.{Tree, int, string, chunked, array, array_indefinite}
use Rattle.cbor4ii_tree.specs.Basis.Tree.{map_of, map_indefinite, tagged, simple, bits, Trees}
use Rattle.cbor4ii_tree.specs.Basis.Tree.{no_trees, tree, Pairs, no_pairs, pair}

-- how many steps are left; None: as many as it takes
abbrev pub Budget : Type 0
Budget = Option ℕ

-- what is left after one more step
abbrev pub step_in : Budget → Option Budget
step_in None = Some None
step_in (Some zero) = None
step_in (Some (suc n)) = Some (Some n)

-- the cost of a string of indefinite length: one step, or two where a chunk is read
abbrev pub chunks_cost : Trees → ℕ
chunks_cost no_trees = 1
chunks_cost (tree t ts) = 2

-- An array or a map takes two, one as a value and one as a sequence of values.
-- The cost of a tree: the steps that reading it as a value takes at its deepest place.
abbrev mutual
  pub cost : Tree → ℕ
  cost (int s n w) = 1
  cost (string k w content) = 1
  cost (chunked k ts) = chunks_cost ts
  cost (array w ts) = 2 + greatest_cost ts
  cost (array_indefinite ts) = 2 + greatest_cost ts
  cost (map_of w ps) = 2 + greatest_pair_cost ps
  cost (map_indefinite ps) = 2 + greatest_pair_cost ps
  cost (tagged n w t) = 1 + cost t
  cost (simple s) = 1
  cost (bits p n) = 1

  pub greatest_cost : Trees → ℕ
  greatest_cost no_trees = 0
  greatest_cost (tree t ts) = max (cost t) (greatest_cost ts)

  pub greatest_pair_cost : Pairs → ℕ
  greatest_pair_cost no_pairs = 0
  greatest_pair_cost (pair k v ps) = max (max (cost k) (cost v)) (greatest_pair_cost ps)

-- The skip cost of a tree: steps that skipping it takes at its deepest place, one for each level.
abbrev mutual
  pub skip_cost : Tree → ℕ
  skip_cost (int s n w) = 1
  skip_cost (string k w content) = 1
  skip_cost (chunked k ts) = 1 + greatest_skip_cost ts
  skip_cost (array w ts) = 1 + greatest_skip_cost ts
  skip_cost (array_indefinite ts) = 1 + greatest_skip_cost ts
  skip_cost (map_of w ps) = 1 + greatest_pair_skip_cost ps
  skip_cost (map_indefinite ps) = 1 + greatest_pair_skip_cost ps
  skip_cost (tagged n w t) = 1 + skip_cost t
  skip_cost (simple s) = 1
  skip_cost (bits p n) = 1

  pub greatest_skip_cost : Trees → ℕ
  greatest_skip_cost no_trees = 0
  greatest_skip_cost (tree t ts) = max (skip_cost t) (greatest_skip_cost ts)

  pub greatest_pair_skip_cost : Pairs → ℕ
  greatest_pair_skip_cost no_pairs = 0
  greatest_pair_skip_cost (pair k v ps) =
      max (max (skip_cost k) (skip_cost v)) (greatest_pair_skip_cost ps)
