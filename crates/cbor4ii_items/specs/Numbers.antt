-- What numbers are encoded as, and how they are rejected (RFC 8949 sections 3.1 and 3.4.3).
use Rattle.std.specs.Prelude.{◌≡◌, ◌≢◌, ℕ, ◌+◌, ◌/◌, ◌^◌, ◌<◌, ◌≤◌, ◌⊎◌, ◌++◌, List, [], ◌∷◌}
use Rattle.std.specs.Prelude.{length, take, drop, ℤ, pos, negsuc, codes, nat_lt, if◌then◌else◌}
use Rattle.cbor4ii_rw.specs.declared.error.Len.TheVariants.{Small, Indefinite}
use Rattle.cbor4ii_items.specs.declared.types.Negative.{Negative}
use Rattle.cbor4ii_items.specs.Head.{head, indefinite_head, shortest_width, IsBytes}
use Rattle.cbor4ii_items.specs.InputError.{InputError, mismatch, eof, require_length}
use Rattle.cbor4ii_items.specs.InputError.{length_overflow, cast_overflow, len_of}
use Rattle.cbor4ii_items.specs.Heads.{ReadsHead, RejectsHead}
use Rattle.cbor4ii_items.specs.Magnitude.{number_of, magnitude}
use Rattle.cbor4ii_items.specs.Decoding.{Reads, RejectsAt, Format, leaf_format, format_by}

-- ---- the argument of a head

-- a head of this major type, of at most so many bytes of argument, whose argument is the number
abbrev pub ReadsArgument : ℕ → ℕ → Reads ℕ
ReadsArgument major width xs v n c = ReadsHead major width xs v n × (c ≡ 0)

-- no byte, another major type, a wider head, or a cut argument
abbrev pub RejectsArgument : List ℕ → ℕ → ℕ → RejectsAt
RejectsArgument name major width xs budget err rest = RejectsHead name major width xs err rest

abbrev pub argument_format : List ℕ → ℕ → ℕ → Format ℕ
argument_format name major width =
    leaf_format (ReadsArgument major width) (RejectsArgument name major width)

-- an unsigned integer of so many bytes
abbrev pub ReadsUnsigned : ℕ → Reads ℕ
ReadsUnsigned width = ReadsArgument 0 width

abbrev pub RejectsUnsigned : List ℕ → ℕ → RejectsAt
RejectsUnsigned name width = RejectsArgument name 0 width

-- -1 - n for an unsigned integer n of so many bytes
abbrev pub ReadsNegative : ℕ → Reads (Negative ℕ)
ReadsNegative width xs v n c = ReadsArgument 1 width xs v.0 n c

-- a head of major type 1, of at most so many bytes of argument, is rejected
abbrev pub RejectsNegative : List ℕ → ℕ → RejectsAt
RejectsNegative name width = RejectsArgument name 1 width

abbrev pub negative_format : List ℕ → ℕ → Format (Negative ℕ)
negative_format name width = format_by (λ v. v.0) (argument_format name 1 width)

-- ---- signed integers of at most eight bytes

-- an integer from 0 on, or -1 - k, with k below the limit
abbrev pub ReadsSigned : ℕ → ℕ → Reads ℤ
ReadsSigned width limit xs (pos k) n c = ReadsHead 0 width xs k n × (k < limit) × (c ≡ 0)
ReadsSigned width limit xs (negsuc k) n c = ReadsHead 1 width xs k n × (k < limit) × (c ≡ 0)

-- the numbers of a signed type
abbrev pub IsWithin : ℕ → ℤ → Type 0
IsWithin limit (pos k) = k < limit
IsWithin limit (negsuc k) = k < limit

-- a head that is rejected, or whose argument is out of range
pub data RejectsHalf (name : List ℕ) (major width limit : ℕ) (xs : List ℕ) (err : InputError)
    (rest : List ℕ) : Type 0 where
  head_rejected : RejectsHead name major width xs err rest
      → RejectsHalf name major width limit xs err rest
  argument_too_great : (v n : ℕ) → ReadsHead major width xs v n → limit ≤ v
      → err ≡ cast_overflow name → rest ≡ drop n xs
      → RejectsHalf name major width limit xs err rest

-- The first byte goes by the type's name, numbers from 0 on by a second, negative ones by a third.
-- A signed integer is rejected by its first byte, or as a number from 0 on, or as a negative one.
pub data RejectsSigned (name plus minus : List ℕ) (width limit : ℕ) (xs : List ℕ) (err : InputError)
    (rest : List ℕ) : Type 0 where
  no_signed_byte : xs ≡ [] → err ≡ eof name (Small 1) → rest ≡ []
      → RejectsSigned name plus minus width limit xs err rest
  no_signed_head : (b : ℕ) (bs : List ℕ) → xs ≡ b ∷ bs → 2 ≤ b / 32 → err ≡ mismatch name b
      → rest ≡ xs → RejectsSigned name plus minus width limit xs err rest
  positive_rejected : (b : ℕ) (bs : List ℕ) → xs ≡ b ∷ bs → b / 32 ≡ 0
      → RejectsHalf plus 0 width limit xs err rest
      → RejectsSigned name plus minus width limit xs err rest
  negative_rejected : (b : ℕ) (bs : List ℕ) → xs ≡ b ∷ bs → b / 32 ≡ 1
      → RejectsHalf minus 1 width limit xs err rest
      → RejectsSigned name plus minus width limit xs err rest

abbrev pub signed_format : List ℕ → List ℕ → List ℕ → ℕ → ℕ → Format ℤ
signed_format name plus minus width limit =
    leaf_format (ReadsSigned width limit) (λ xs budget. RejectsSigned name plus minus width limit
    xs)

-- ---- bignums of at most sixteen bytes

-- a definite-length byte string, which is the number; n bytes in all
pub record ReadsMagnitude (xs : List ℕ) (v n : ℕ) : Type 0 where
  pub count : ℕ
  pub before : ℕ
  pub counted : ReadsHead 2 8 xs count before
  pub short : count ≤ 16
  pub within : before + count ≤ length xs
  pub bytes : IsBytes (take count (drop before xs))
  pub value : v ≡ number_of (take count (drop before xs))
  pub size : n ≡ before + count

-- the tag, in the first byte or the one after it, and the byte string
pub record ReadsBignum (tag : ℕ) (xs : List ℕ) (v n : ℕ) : Type 0 where
  pub before : ℕ
  pub tagged : ReadsHead 6 1 xs tag before
  pub size : ℕ
  pub magnitude : ReadsMagnitude (drop before xs) v size
  pub total : n ≡ before + size

pub data RejectsMagnitude (name : List ℕ) (xs : List ℕ) (err : InputError)
    (rest : List ℕ) : Type 0 where
  length_rejected : (take 1 xs ≡ indefinite_head 2 ∷ [] → ⊥) → RejectsHead name 2 8 xs err rest
      → RejectsMagnitude name xs err rest
  length_indefinite : xs ≡ indefinite_head 2 ∷ rest → err ≡ require_length name Indefinite
      → RejectsMagnitude name xs err rest
  length_too_great : (count before : ℕ) → ReadsHead 2 8 xs count before → 16 < count
      → err ≡ length_overflow name (len_of count) → rest ≡ drop before xs
      → RejectsMagnitude name xs err rest
  content_cut : (count before : ℕ) → ReadsHead 2 8 xs count before → count ≤ 16
      → length xs < before + count → err ≡ eof name (Small count) → rest ≡ []
      → RejectsMagnitude name xs err rest

-- ---- u128

abbrev pub ReadsU128 : Reads ℕ
ReadsU128 xs v n c = (ReadsHead 0 8 xs v n ⊎ ReadsBignum 2 xs v n) × (c ≡ 0)

-- no byte, a head or a bignum that is rejected, or a byte that begins neither
pub data RejectsU128 (xs : List ℕ) (err : InputError) (rest : List ℕ) : Type 0 where
  no_u128_byte : xs ≡ [] → err ≡ eof (codes "u128") (Small 1) → rest ≡ []
      → RejectsU128 xs err rest
  u128_head_rejected : (b : ℕ) (bs : List ℕ) → xs ≡ b ∷ bs → b / 32 ≡ 0
      → RejectsHead (codes "u64") 0 8 xs err rest → RejectsU128 xs err rest
  u128_tag_rejected : (b : ℕ) (bs : List ℕ) → xs ≡ b ∷ bs → b / 32 ≢ 0
      → RejectsHead (codes "u128") 6 1 xs err rest → RejectsU128 xs err rest
  other_u128_tag : (tag before : ℕ) → ReadsHead 6 1 xs tag before → tag ≢ 2
      → err ≡ mismatch (codes "u128::tag") tag → rest ≡ drop before xs
      → RejectsU128 xs err rest
  u128_bytes_rejected : (before : ℕ) → ReadsHead 6 1 xs 2 before
      → RejectsMagnitude (codes "u128::bytes") (drop before xs) err rest
      → RejectsU128 xs err rest

-- ---- i128

abbrev pub ReadsI128 : Reads ℤ
ReadsI128 xs (pos k) n c = (ReadsHead 0 8 xs k n ⊎ (ReadsBignum 2 xs k n × (k < 2 ^ 127))) × (c ≡ 0)
ReadsI128 xs (negsuc k) n c =
    (ReadsHead 1 8 xs k n ⊎ (ReadsBignum 3 xs k n × (k < 2 ^ 127))) × (c ≡ 0)

-- no byte, a head or a bignum that is rejected, another byte, or a bignum beyond i128
pub data RejectsI128 (xs : List ℕ) (err : InputError) (rest : List ℕ) : Type 0 where
  no_i128_byte : xs ≡ [] → err ≡ eof (codes "i128") (Small 1) → rest ≡ []
      → RejectsI128 xs err rest
  i128_head_rejected : (b : ℕ) (bs : List ℕ) → xs ≡ b ∷ bs → b / 32 ≡ 0
      → RejectsHead (codes "u64") 0 8 xs err rest → RejectsI128 xs err rest
  i128_negative_rejected : (b : ℕ) (bs : List ℕ) → xs ≡ b ∷ bs → b / 32 ≡ 1
      → RejectsHead (codes "i128") 1 8 xs err rest → RejectsI128 xs err rest
  i128_tag_rejected : (b : ℕ) (bs : List ℕ) → xs ≡ b ∷ bs → 2 ≤ b / 32
      → RejectsHead (codes "i128") 6 1 xs err rest → RejectsI128 xs err rest
  other_i128_tag : (tag before : ℕ) → ReadsHead 6 1 xs tag before → tag ≢ 2 → tag ≢ 3
      → err ≡ mismatch (codes "i128::tag") tag → rest ≡ drop before xs
      → RejectsI128 xs err rest
  i128_bytes_rejected : (before : ℕ) → ReadsHead 6 1 xs 2 before
      → RejectsMagnitude (codes "+i128::bytes") (drop before xs) err rest
      → RejectsI128 xs err rest
  i128_negative_bytes_rejected : (before : ℕ) → ReadsHead 6 1 xs 3 before
      → RejectsMagnitude (codes "-i128::bytes") (drop before xs) err rest
      → RejectsI128 xs err rest
  i128_too_great : (tag v n : ℕ) → (tag ≡ 2) ⊎ (tag ≡ 3) → ReadsBignum tag xs v n → 2 ^ 127 ≤ v
      → err ≡ cast_overflow (codes "i128") → rest ≡ drop n xs → RejectsI128 xs err rest

-- ---- what is written

-- the shortest head of this major type with this argument
abbrev pub shortest_head : ℕ → ℕ → List ℕ
shortest_head major v = head major v (shortest_width v)

-- the shortest head of this major type with the content's length, and the content
abbrev pub definite_string : ℕ → List ℕ → List ℕ
definite_string major content = shortest_head major (length content) ++ content

-- a tag, and the number's bytes without leading zeros as a byte string
abbrev pub bignum_bytes : ℕ → ℕ → List ℕ
bignum_bytes tag v = shortest_head 6 tag ++ definite_string 2 (magnitude v)

-- the argument of a head of this major type where it fits, else a bignum
abbrev pub integer_bytes : ℕ → ℕ → ℕ → List ℕ
integer_bytes major tag v = if nat_lt v (2 ^ 64) then shortest_head major v else bignum_bytes tag v

-- the shortest head of n, or beyond 64 bits a bignum without leading zeros
abbrev pub unsigned_bytes : ℕ → List ℕ
unsigned_bytes v = integer_bytes 0 2 v

-- the shortest head of n, of major type 0, or of -1 - n, of major type 1
abbrev pub signed_head : ℤ → List ℕ
signed_head (pos n) = shortest_head 0 n
signed_head (negsuc n) = shortest_head 1 n

-- From 0 on an unsigned integer, and -1 - n as the argument n of major type 1 or a negative bignum.
-- The bytes of an integer of either sign.
abbrev pub signed_bytes : ℤ → List ℕ
signed_bytes (pos n) = integer_bytes 0 2 n
signed_bytes (negsuc n) = integer_bytes 1 3 n
