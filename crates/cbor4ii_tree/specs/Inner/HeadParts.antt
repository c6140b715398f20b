-- The parts of heads as calls of the program take them.
use Rattle.std.specs.{Prelude.{◌≡◌, ℕ, ◌≤◌, ◌%◌, List, [], ◌∷◌, ◌++◌, length}, Int.bytes_high_first}
use Rattle.cbor4ii_items.specs.Head.{Width, byte_count, additional, HeadFits, IsBytes}
use Rattle.cbor4ii_items.specs.{Initial.{Info, wide}, Magnitude.number_of}
use Rattle.cbor4ii_tree.specs.{Basis.InputError.{eof, Small}}
use Rattle.cbor4ii_tree.specs.{Calls.Rejections.{Rejection, Is, MissingAll}}

-- ---- bytes

-- the next byte is taken
abbrev pub TakesByte : List ℕ → ℕ → List ℕ → Type 0
TakesByte bs b after = bs ≡ b ∷ after

-- no byte is left, and so many are asked for
abbrev pub NoByte : List ℕ → ℕ → Rejection
NoByte name expect bs e rest = (bs ≡ []) × Is (eof name (Small expect)) [] e rest

-- so many bytes were taken
pub record DropsBytes (count : ℕ) (bs after : List ℕ) : Type 0 where
  pub content : List ℕ
  pub size : length content ≡ count
  pub bytes : IsBytes content
  pub is : bs ≡ content ++ after

-- some bytes were taken, and no more than are missing
abbrev pub DropsSome : ℕ → List ℕ → ℕ → List ℕ → Type 0
DropsSome missing bs n after = (1 ≤ n) × (n ≤ missing) × DropsBytes n bs after

-- a number in so many bytes
abbrev pub TakesNumber : ℕ → List ℕ → ℕ → List ℕ → Type 0
TakesNumber count bs n after = (d : DropsBytes count bs after) × (n ≡ number_of d.content)

-- ---- arguments

-- after a first byte, the argument in this width
pub record ArgumentAt (w : Width) (first : ℕ) (bs : List ℕ) (n : ℕ) (after : List ℕ) : Type 0 where
  pub fits : HeadFits w n
  pub says : additional w n ≡ first % 32
  pub is : bs ≡ bytes_high_first (byte_count w) n ++ after

-- the argument that the additional information says; where it says none, nothing is taken
abbrev pub ArgumentBy : Info → ℕ → List ℕ → ℕ → List ℕ → Type 0
ArgumentBy (wide w) first bs n after = ArgumentAt w first bs n after
ArgumentBy _ first bs n after = after ≡ bs

-- the argument is cut
abbrev pub CutBy : List ℕ → Info → Rejection
CutBy name (wide w) = MissingAll name (byte_count w)
CutBy name _ = λ bs e rest. ⊥
