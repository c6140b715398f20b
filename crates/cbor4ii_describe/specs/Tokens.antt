-- The texts of tokens.
use Rattle.std.specs.Prelude.{ℕ, List, ◌++◌, string_bytes}
use Rattle.std.specs.List.{flat_map}
use Rattle.cbor4ii_describe.specs.declared.tokens.Token.{Token}
use Rattle.cbor4ii_describe.specs.declared.tokens.Cutting.{Cutting}

-- the bytes of a token
abbrev pub token_bytes : Token → List ℕ
token_bytes token = string_bytes token.text

-- the texts of tokens, one after another
abbrev pub tokens_bytes : List Token → List ℕ
tokens_bytes tokens = flat_map token_bytes tokens

-- what was taken: the tokens before the one in work, and that one
abbrev pub taken_text_of : Cutting → List ℕ
taken_text_of cut = tokens_bytes cut.done.items ++ token_bytes cut.now
