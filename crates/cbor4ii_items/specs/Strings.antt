-- What strings are encoded as, and how they are rejected (RFC 8949 sections 3.1, 3.2.1 and 3.2.3).
use Rattle.std.specs.Prelude.{◌≡◌, ◌≢◌, ℕ, ◌+◌, ◌-◌, ◌<◌, ◌⊎◌, ◌++◌, List, [], ◌∷◌, length, take}
use Rattle.std.specs.Prelude.{drop, Bool, true, false, Option, Some, codes, IsUtf8}
use Rattle.cbor4ii_rw.specs.declared.error.Len.TheVariants.{Small, Indefinite}
use Rattle.cbor4ii_items.specs.Head.{break, indefinite_head}
use Rattle.cbor4ii_items.specs.InputError.{InputError, eof, require_length, require_utf8}
use Rattle.cbor4ii_items.specs.InputError.{depth_overflow, len_of}
use Rattle.cbor4ii_items.specs.Decoding.{Reads, RejectsAt, Format, leaf_format, looking_format}
use Rattle.cbor4ii_items.specs.Decoding.{format_by, taking_memory}
use Rattle.cbor4ii_items.specs.Budget.{CostFits}
use Rattle.cbor4ii_items.specs.Heads.{ReadsHead, RejectsHead}
pub use Rattle.cbor4ii_items.specs.Numbers.{definite_string}
use Rattle.cbor4ii_items.specs.declared.types.Bytes.{Bytes}
use Rattle.cbor4ii_items.specs.declared.types.UncheckedStr.{UncheckedStr}
use Rattle.std.specs.declared.alloc.Global.{Global}
use Rattle.std.specs.declared.vec.Vec.{Vec}
use Rattle.std.specs.declared.string.String.{String}
use Rattle.std.specs.Prelude.{string_bytes}

-- ---- what is written

-- the first byte of a string of indefinite length
abbrev pub open_head : ℕ → List ℕ
open_head major = indefinite_head major ∷ []

-- the byte that ends an indefinite length
abbrev pub break_bytes : List ℕ
break_bytes = break ∷ []

-- ---- what is read

-- a head of this major type that says the content's length, and the content; n bytes in all
pub record ReadsDefiniteString (major : ℕ) (xs content : List ℕ) (n : ℕ) : Type 0 where
  pub before : ℕ
  pub head : ReadsHead major 8 xs (length content) before
  pub stands : take (length content) (drop before xs) ≡ content
  pub size : n ≡ before + length content

-- strings of definite length, one after another
abbrev pub ReadsChunks : ℕ → List (List ℕ) → List ℕ → ℕ → Type 0
ReadsChunks major [] xs n = n ≡ 0
ReadsChunks major (chunk ∷ chunks) xs n =
    (k : ℕ) × (m : ℕ) × ReadsDefiniteString major xs chunk k × ReadsChunks major chunks
    (drop k xs) m
    × (n ≡ k + m)

-- the contents of the chunks, joined
abbrev pub joined_content : List (List ℕ) → List ℕ
joined_content [] = []
joined_content (chunk ∷ chunks) = chunk ++ joined_content chunks

-- the steps that the chunks cost: one, or none where there is no chunk
abbrev pub chunk_cost : List (List ℕ) → ℕ
chunk_cost [] = 0
chunk_cost (chunk ∷ chunks) = 1

-- a string of indefinite length: its first byte, chunks, and a break; n bytes in all, at the cost c
pub record ReadsIndefiniteString (major : ℕ) (xs content : List ℕ) (n c : ℕ) : Type 0 where
  pub begins : take 1 xs ≡ indefinite_head major ∷ []
  pub chunks : List (List ℕ)
  pub between : ℕ
  pub read : ReadsChunks major chunks (drop 1 xs) between
  pub ends : take 1 (drop (1 + between) xs) ≡ break ∷ []
  pub value : content ≡ joined_content chunks
  pub size : n ≡ 2 + between
  pub cost : c ≡ chunk_cost chunks

-- a string of this major type, of definite or of indefinite length
abbrev pub ReadsString : ℕ → Reads (List ℕ)
ReadsString major xs content n c =
    (ReadsDefiniteString major xs content n × (c ≡ 0)) ⊎ ReadsIndefiniteString major xs content n c

-- a text string that is UTF-8
abbrev pub ReadsText : Reads (List ℕ)
ReadsText xs content n c = ReadsString 3 xs content n c × IsUtf8 content

-- a string whose content a value has
abbrev pub ReadsAs : {V : Type 0} → ℕ → (V → List ℕ) → Reads V
ReadsAs major content xs v n c = ReadsString major xs (content v) n c

-- a text string that is UTF-8, whose content a value has
abbrev pub ReadsTextAs : {V : Type 0} → (V → List ℕ) → Reads V
ReadsTextAs content xs v n c = ReadsText xs (content v) n c

-- the content of an owned byte string, and of an owned text that is not tested
abbrev pub bytes_content : Bytes (Vec ℕ Global) → List ℕ
bytes_content v = v.0.items

-- the content of a text whose UTF-8 is not tested
abbrev pub unchecked_content : UncheckedStr (Vec ℕ Global) → List ℕ
unchecked_content v = v.0.items

-- the content of an owned text
abbrev pub text_content : String Global → List ℕ
text_content v = string_bytes v

-- ---- how strings are rejected

-- fewer bytes follow than the head says, and nothing is left
pub record CutContent (name : List ℕ) (major : ℕ) (xs : List ℕ) (err : InputError)
    (rest : List ℕ) : Type 0 where
  pub count : ℕ
  pub before : ℕ
  pub head : ReadsHead major 8 xs count before
  pub short : length xs < before + count
  pub answer : err ≡ eof name (len_of (before + count - length xs))
  pub left : rest ≡ []

-- what is rejected where a chunk or a break should come
pub data RejectsChunk (name : List ℕ) (major : ℕ) (xs : List ℕ) (budget : Option ℕ)
    (err : InputError) (rest : List ℕ) : Type 0 where
  no_chunk_byte : xs ≡ [] → err ≡ eof (codes "break") (Small 1) → rest ≡ []
      → RejectsChunk name major xs budget err rest
  no_step : xs ≢ [] → (take 1 xs ≡ break ∷ [] → ⊥) → budget ≡ Some 0 → err ≡ depth_overflow name
      → rest ≡ xs → RejectsChunk name major xs budget err rest
  chunk_indefinite : budget ≢ Some 0 → xs ≡ indefinite_head major ∷ rest
      → err ≡ require_length name Indefinite → RejectsChunk name major xs budget err rest
  chunk_rejected : budget ≢ Some 0 → (take 1 xs ≡ break ∷ [] → ⊥)
      → (take 1 xs ≡ indefinite_head major ∷ [] → ⊥) → xs ≢ [] → RejectsHead name major 8 xs
      err rest
      → RejectsChunk name major xs budget err rest
  chunk_cut : budget ≢ Some 0 → CutContent name major xs err rest
      → RejectsChunk name major xs budget err rest

-- Some chunks are whole and fit the budget, and then comes the error.
-- A string of indefinite length is rejected after its first byte.
pub record RejectsIndefinite (name : List ℕ) (major : ℕ) (xs : List ℕ) (budget : Option ℕ)
    (err : InputError) (rest : List ℕ) : Type 0 where
  pub chunks : List (List ℕ)
  pub between : ℕ
  pub read : ReadsChunks major chunks xs between
  pub fits : CostFits (chunk_cost chunks) budget
  pub stop : RejectsChunk name major (drop between xs) budget err rest

-- the head, a cut content, no step for chunks, or a chunk
pub data RejectsString (name : List ℕ) (major : ℕ) (xs : List ℕ) (budget : Option ℕ)
    (err : InputError) (rest : List ℕ) : Type 0 where
  string_head_rejected : (take 1 xs ≡ indefinite_head major ∷ [] → ⊥)
      → RejectsHead name major 8 xs err rest → RejectsString name major xs budget err rest
  string_cut : CutContent name major xs err rest → RejectsString name major xs budget err rest
  string_indefinite : take 1 xs ≡ indefinite_head major ∷ []
      → RejectsIndefinite name major (drop 1 xs) budget err rest
      → RejectsString name major xs budget err rest

-- a text string whose content is not UTF-8 is taken whole
pub data RejectsText (name : List ℕ) (xs : List ℕ) (budget : Option ℕ) (err : InputError)
    (rest : List ℕ) : Type 0 where
  no_string : RejectsString name 3 xs budget err rest → RejectsText name xs budget err rest
  no_utf8 : (content : List ℕ) (n c : ℕ) → ReadsString 3 xs content n c → CostFits c budget
      → (IsUtf8 content → ⊥) → err ≡ require_utf8 name → rest ≡ drop n xs
      → RejectsText name xs budget err rest

-- ---- strings and texts in one word

abbrev pub string_format : List ℕ → ℕ → Format (List ℕ)
string_format name major =
    taking_memory (leaf_format (ReadsString major) (RejectsString name major))

-- a string whose content a value has
abbrev pub as_format : {V : Type 0} → List ℕ → ℕ → (V → List ℕ) → Format V
as_format name major content = format_by content (string_format name major)

-- a text string that is UTF-8, whose content a value has
abbrev pub text_format : {V : Type 0} → List ℕ → (V → List ℕ) → Format V
text_format name content =
    format_by content (taking_memory (leaf_format ReadsText (RejectsText name)))

-- ---- breaks

-- a break is taken, and another byte stays
abbrev pub ReadsBreak : Reads Bool
ReadsBreak xs true n c = (take 1 xs ≡ break ∷ []) × (n ≡ 1) × (c ≡ 0)
ReadsBreak xs false n c = (xs ≢ []) × (take 1 xs ≡ break ∷ [] → ⊥) × (n ≡ 0) × (c ≡ 0)

-- no byte is left
abbrev pub RejectsBreak : RejectsAt
RejectsBreak xs budget err rest =
    (xs ≡ []) × (err ≡ eof (codes "break") (Small 1)) × (rest ≡ [])

abbrev pub break_format : Format Bool
break_format = looking_format ReadsBreak RejectsBreak
