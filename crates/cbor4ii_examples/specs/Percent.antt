-- Which numbers are no percent.
use Rattle.std.specs.Prelude.{ℕ, List, Option, None, Some, codes, nat_le, if◌then◌else◌}

-- the words in which a number above 100 is rejected
abbrev pub percent_words : ℕ → Option (List ℕ)
percent_words n = if nat_le n 100 then None else Some (codes "a percent is at most 100")
