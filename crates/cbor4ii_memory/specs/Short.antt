-- Which texts are longer than four bytes.
use Rattle.std.specs.Prelude.{ℕ, List, Option, None, Some, codes, length, nat_le}
use Rattle.std.specs.Prelude.{string_bytes, if◌then◌else◌}
use Rattle.std.specs.declared.alloc.Global.{Global}
use Rattle.std.specs.declared.string.String.{String}

-- the words in which these bytes of a text are rejected
abbrev pub short_words : List ℕ → Option (List ℕ)
short_words bytes = if nat_le (length bytes) 4 then None else Some (codes "longer than four bytes")

-- the words in which a text is rejected
abbrev pub short_text_words : String Global → Option (List ℕ)
short_text_words text = short_words (string_bytes text)
