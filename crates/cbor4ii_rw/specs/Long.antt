-- What a reader says of a prefix that lives as long as its input.
use Rattle.std.specs.Prelude.{◌≢◌, ℕ, List, [], IsTrue}
use Rattle.cbor4ii_rw.specs.View.{View, IfKnown}
use Rattle.cbor4ii_rw.specs.Reader.{IsPrefix, IsEnough, Shows}

-- a prefix that lives as long as the input was lent, as many bytes as `show` shows
pub record FillsLong (want : ℕ) (shown : List ℕ) (old new : View) : Type 0 where
  pub shows : Shows shown old new
  pub prefix : IfKnown old.known (IsPrefix want shown)
  pub enough : IsTrue old.zero_copy → IfKnown old.known (IsEnough want shown)

-- some bytes are left, and what is shown of them does not live as long as the input; none is taken
pub record BorrowsNone (old new : View) : Type 0 where
  pub some : IfKnown old.known (λ xs. xs ≢ [])
  pub stays : Shows [] old new
  pub short : IsTrue old.zero_copy → ⊥
