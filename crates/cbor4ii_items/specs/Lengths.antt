-- The length that an array or a map begins with: what is read, and how it is rejected (RFC 8949
-- sections 3 and 3.2.2).
use Rattle.std.specs.Prelude.{◌≡◌, ℕ, List, [], ◌∷◌, take, Option, Some, None}
use Rattle.cbor4ii_items.specs.Head.{indefinite_head}
use Rattle.cbor4ii_items.specs.Heads.{ReadsHead, RejectsHead}
use Rattle.cbor4ii_items.specs.Decoding.{Reads, RejectsAt, Format, leaf_format}

-- a head of this major type says the length; the first byte of an indefinite length is none
abbrev pub ReadsLength : ℕ → Reads (Option ℕ)
ReadsLength major xs (Some v) n c = ReadsHead major 8 xs v n × (c ≡ 0)
ReadsLength major xs None n c = (take 1 xs ≡ indefinite_head major ∷ []) × (n ≡ 1) × (c ≡ 0)

-- what is no first byte of an indefinite length is rejected as a head is
abbrev pub RejectsLength : List ℕ → ℕ → RejectsAt
RejectsLength name major xs budget err rest =
    (take 1 xs ≡ indefinite_head major ∷ [] → ⊥) × RejectsHead name major 8 xs err rest

abbrev pub length_format : List ℕ → ℕ → Format (Option ℕ)
length_format name major = leaf_format (ReadsLength major) (RejectsLength name major)
