-- Inputs that are read from their beginning.
use Rattle.std.specs.Prelude.{ℕ}

-- RFC 8949 leaves it to the decoder (section 10).
-- The steps that a reader over an input has: the nesting limit.
abbrev pub limit : ℕ
limit = 256
