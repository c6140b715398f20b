-- How much of the input is left.
use Rattle.std.specs.Prelude.{ℕ, ◌<◌, ◌≤◌, vec_len}
use Rattle.cbor4ii_describe.specs.declared.input.Input.{Input}

-- how many tokens are left
abbrev pub left_count : Input → ℕ
left_count input = vec_len input.left

-- a token at least was taken
abbrev pub Shorter : Input → Input → Type 0
Shorter old new = left_count new < left_count old

-- no token came back
abbrev pub NoLonger : Input → Input → Type 0
NoLonger old new = left_count new ≤ left_count old
