-- Heads and strings that are encoded in one way: by the shortest head (RFC 8949 section 4.1).
use Rattle.std.specs.Prelude.{◌≡◌, ◌≢◌, ℕ, ◌≤◌, List, ◌∷◌, drop, length, Option, codes}
use Rattle.cbor4ii_items.specs.Head.{indefinite_head, shortest_width}
use Rattle.cbor4ii_items.specs.InputError.{InputError, not_canonical}
use Rattle.cbor4ii_items.specs.Decoding.{Reads, Format, leaf_format, taking_memory}
use Rattle.cbor4ii_items.specs.Heads.{ReadsHead, RejectsHead}
use Rattle.cbor4ii_items.specs.Strings.{ReadsDefiniteString, CutContent}

-- by this name it is said that an encoding is not the canonical one
abbrev pub canonical_name : List ℕ
canonical_name = codes "canonical"

-- the byte begins a string, an array or a map of indefinite length (section 3.2)
abbrev pub LacksLength : ℕ → ℕ → Type 0
LacksLength major b = (2 ≤ major) × (major ≤ 5) × (b ≡ indefinite_head major)

-- a head of this major type of the least width that its argument has; over 7 no byte begins one
abbrev pub ReadsShortest : ℕ → Reads ℕ
ReadsShortest major xs v n c = (h : ReadsHead major 8 xs v n) × (h.wide ≡ shortest_width v)
    × (c ≡ 0)

-- What follows the byte, or the whole head, is left.
-- A head rejected as any is, the first byte of an indefinite length, or a head longer than needed.
pub data RejectsShortest (name : List ℕ) (major : ℕ) (xs : List ℕ) (budget : Option ℕ)
    (err : InputError) (rest : List ℕ) : Type 0 where
  shortest_rejected : ((b : ℕ) (bs : List ℕ) → xs ≡ b ∷ bs → ¬ (LacksLength major b))
      → RejectsHead name major 8 xs err rest → RejectsShortest name major xs budget err rest
  shortest_indefinite : (b : ℕ) → LacksLength major b → xs ≡ b ∷ rest
      → err ≡ not_canonical canonical_name → RejectsShortest name major xs budget err rest
  too_long : (v n : ℕ) (h : ReadsHead major 8 xs v n) → h.wide ≢ shortest_width v
      → err ≡ not_canonical canonical_name → rest ≡ drop n xs
      → RejectsShortest name major xs budget err rest

abbrev pub shortest_format : List ℕ → ℕ → Format ℕ
shortest_format name major = leaf_format (ReadsShortest major) (RejectsShortest name major)

-- a shortest head of this major type that says the content's length, and the content
abbrev pub ReadsShortestString : ℕ → Reads (List ℕ)
ReadsShortestString major xs content n c =
    (s : ReadsDefiniteString major xs content n) × (s.head.wide ≡ shortest_width (length content))
    × (c ≡ 0)

-- a head that is rejected, or a shortest one and fewer bytes than it says
pub data RejectsShortestString (name : List ℕ) (major : ℕ) (xs : List ℕ) (budget : Option ℕ)
    (err : InputError) (rest : List ℕ) : Type 0 where
  length_rejected : RejectsShortest name major xs budget err rest
      → RejectsShortestString name major xs budget err rest
  content_cut : (c : CutContent name major xs err rest) → c.head.wide ≡ shortest_width c.count
      → RejectsShortestString name major xs budget err rest

abbrev pub shortest_string_format : List ℕ → ℕ → Format (List ℕ)
shortest_string_format name major =
    taking_memory (leaf_format (ReadsShortestString major) (RejectsShortestString name major))
