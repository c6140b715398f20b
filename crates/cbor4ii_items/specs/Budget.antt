-- The steps of a budget, which bounds how deep items nest (RFC 8949 section 10).
use Rattle.std.specs.Prelude.{ℕ, ◌≤◌, Option, Some, None}

-- a cost fits a budget; every cost fits where there is none
abbrev pub CostFits : ℕ → Option ℕ → Type 0
CostFits cost None = Unit {0}
CostFits cost (Some budget) = cost ≤ budget
