-- How many parts an array or a map has: a number, or any up to a break.
use Rattle.std.specs.Prelude.{◌≡◌, ◌<◌, ◌-◌, ℕ, List, [], Option, None, Some}
use Rattle.cbor4ii_items.specs.Numbers.{shortest_head}
use Rattle.cbor4ii_items.specs.Strings.{open_head, break_bytes}

-- the head of an array (4) or a map (5) of so many parts
abbrev pub container_head : ℕ → Option ℕ → List ℕ
container_head major (Some len) = shortest_head major len
container_head major None = open_head major

-- what ends an array or a map: nothing after so many parts, and else a break
abbrev pub container_end : Option ℕ → List ℕ
container_end (Some len) = []
container_end None = break_bytes

-- another part may come
abbrev pub IsReady : Option ℕ → Type 0
IsReady (Some left) = 0 < left
IsReady None = Unit {0}

-- no part has to come any more
abbrev pub IsDone : Option ℕ → Type 0
IsDone (Some left) = left ≡ 0
IsDone None = Unit {0}

-- one part fewer is to come
abbrev pub less : Option ℕ → Option ℕ
less (Some left) = Some (left - 1)
less None = None
