-- Heads at the beginning of bytes: which one is read there, and how one is rejected (RFC 8949
-- section 3).
use Rattle.std.specs.Prelude.{◌≡◌, ℕ, suc, ◌+◌, ◌*◌, ◌<◌, ◌≤◌, ◌⊎◌, List, [], ◌∷◌, ◌++◌, length}
use Rattle.cbor4ii_rw.specs.declared.error.Len.TheVariants.{Small}
use Rattle.cbor4ii_items.specs.Head.{Width, byte_count, HeadFits, additional, head}
use Rattle.cbor4ii_items.specs.InputError.{InputError, mismatch, eof}

-- The head has at most so many bytes of argument; v is its argument, and n its length.
-- The bytes begin with a head of this major type.
pub record ReadsHead (major width : ℕ) (xs : List ℕ) (v n : ℕ) : Type 0 where
  pub wide : Width
  pub allowed : byte_count wide ≤ width
  pub fits : HeadFits wide v
  pub rest : List ℕ
  pub is : xs ≡ head major v wide ++ rest
  pub count : n ≡ suc (byte_count wide)

-- some head of this major type, of at most so many bytes of argument, begins with the byte b
pub record Begins (major width b : ℕ) (wide : Width) : Type 0 where
  pub argument : ℕ
  pub fits : HeadFits wide argument
  pub allowed : byte_count wide ≤ width
  pub is : b ≡ 32 * major + additional wide argument

-- no head of this major type, of at most so many bytes of argument, begins with b, which is taken
pub record NotAHead (name : List ℕ) (major width b : ℕ) (bs : List ℕ) (err : InputError)
    (rest : List ℕ) : Type 0 where
  pub none : (wide : Width) → Begins major width b wide → ⊥
  pub answer : err ≡ mismatch name b
  pub left : rest ≡ bs

-- fewer bytes follow than the argument has, and nothing is left
pub record CutHead (name : List ℕ) (major width b : ℕ) (bs : List ℕ) (err : InputError)
    (rest : List ℕ) : Type 0 where
  pub wide : Width
  pub begins : Begins major width b wide
  pub short : length bs < byte_count wide
  pub answer : err ≡ eof name (Small (byte_count wide))
  pub left : rest ≡ []

-- how a head is rejected, and which bytes are left then
abbrev pub RejectsHead : List ℕ → ℕ → ℕ → List ℕ → InputError → List ℕ → Type 0
RejectsHead name major width [] err rest = (err ≡ eof name (Small 1)) × (rest ≡ [])
RejectsHead name major width (b ∷ bs) err rest =
    NotAHead name major width b bs err rest ⊎ CutHead name major width b bs err rest
