-- Integers: items of major types 0 and 1 (RFC 8949 section 3.1), each of them a head alone.
use Rattle.std.specs.Prelude.{◌≡◌, ◌≢◌, ℕ, ◌+◌, ◌*◌, ◌≤◌, List, [], ◌∷◌, ◌++◌}
use Rattle.cbor4ii_items.specs.Head.{Width, HeadFits, additional, head, shortest_width}

-- what a head says, and in which width
pub record IntegerHead : Type 0 where
  pub major : ℕ
  pub argument : ℕ
  pub width : Width

-- the head is that of an integer
pub record IsIntegerHead (item : IntegerHead) : Type 0 where
  pub major : item.major ≤ 1
  pub fits : HeadFits item.width item.argument

-- the bytes of a head
abbrev pub encoding : IntegerHead → List ℕ
encoding item = head item.major item.argument item.width

-- the bytes of the least width that its argument has (RFC 8949 section 4.2.1)
abbrev pub shortest_encoding : IntegerHead → List ℕ
shortest_encoding item = head item.major item.argument (shortest_width item.argument)

-- an integer stands at the beginning of these bytes
pub record BeginsInteger (bytes : List ℕ) : Type 0 where
  pub item : IntegerHead
  pub integer : IsIntegerHead item
  pub more : List ℕ
  pub is : bytes ≡ encoding item ++ more

-- the first byte is one with which no integer begins
pub record BeginsNoInteger (bytes : List ℕ) : Type 0 where
  pub first : ℕ
  pub more : List ℕ
  pub is : bytes ≡ first ∷ more
  pub other : (item : IntegerHead) → IsIntegerHead item
      → first ≢ 32 * item.major + additional item.width item.argument

-- these bytes begin an integer, and end inside it
pub record IsCutInteger (bytes : List ℕ) : Type 0 where
  pub item : IntegerHead
  pub integer : IsIntegerHead item
  pub missing : List ℕ
  pub some : missing ≢ []
  pub joined : encoding item ≡ bytes ++ missing
