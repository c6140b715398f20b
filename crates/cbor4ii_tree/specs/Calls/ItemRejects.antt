-- Where an item is rejected, by cases on its initial byte: one relation for reading a value and for
-- skipping an item, which differ in a profile.
use Rattle.std.specs.Prelude.{◌≡◌, ℕ, zero, suc, ◌*◌, List, [], ◌∷◌, ◌++◌, length, ◌⊎◌, IsUtf8}
use Rattle.std.specs.Prelude.{MatchBool, Option, Bool, true, false}
use Rattle.cbor4ii_items.specs.{Budget.CostFits, Head.{Width, byte_count, break}, Initial.Sign}
use Rattle.cbor4ii_items.specs.Initial.{Kind, byte_string, text_string, kind_major, Precision}
use Rattle.cbor4ii_items.specs.Initial.{precision_bytes, Initial, starts_int, bad_int}
use Rattle.cbor4ii_items.specs.Initial.{starts_string, starts_chunks, bad_string, starts_array}
use Rattle.cbor4ii_items.specs.Initial.{starts_indefinite_array, bad_array, starts_map}
use Rattle.cbor4ii_items.specs.Initial.{starts_indefinite_map, bad_map, starts_tag, bad_tag}
use Rattle.cbor4ii_items.specs.Initial.{starts_simple, starts_bits, other_simple, initial}
use Rattle.cbor4ii_tree.specs.Basis.{Cost.{Budget, step_in, cost}, InputError.{InputError, eof}}
use Rattle.cbor4ii_tree.specs.Basis.InputError.{mismatch, unsupported, require_length, require_utf8}
use Rattle.cbor4ii_tree.specs.Basis.InputError.{Indefinite, Small, kind_name, tag_name, break_name}
use Rattle.cbor4ii_tree.specs.Basis.Tree.{Tree, Trees, bytes_all, Loose, IsChunk, joined_chunks}
use Rattle.cbor4ii_tree.specs.Calls.Rejections.{Rejection, Is, Lacks, Missing, AfterHead, AtHead}
use Rattle.cbor4ii_tree.specs.Calls.Rejections.{RejectsAtStep, Each, RejectsInCount}
use Rattle.cbor4ii_tree.specs.Calls.Rejections.{IndefiniteItems, IndefinitePairs}

-- What reading a value and skipping an item differ in.
pub record Profile : Type 1 where
  -- the names that errors carry: of an integer, a string, a float, an array, a map, and of an item
  -- of which no more is known
  pub of_int : Sign → List ℕ
  pub of_string : Kind → List ℕ
  pub of_float : Precision → List ℕ
  pub of_array : List ℕ
  pub of_map : List ℕ
  pub of_item : List ℕ
  -- how many bytes are asked for, where an integer or a float has k of them, and n are there
  pub asks : ℕ → ℕ → ℕ
  -- what a bad integer leaves, of its byte and of what follows it
  pub leaves : ℕ → List ℕ → List ℕ
  -- what is left for the items of an array or a map, if anything
  pub inside : Budget → Option Budget
  -- whether strings are tested: chunks are strings of their kind with a length, and text is UTF-8
  pub tests : Bool
  -- an item that is taken whole
  pub Whole : Budget → Tree → Type 0

-- ---- strings

-- a chunk that is read whole, under a step (section 3.2.3)
abbrev pub ReadableChunk : Kind → Budget → Tree → Type 0
ReadableChunk k budget t = Loose t × IsChunk k t × CostFits (cost t) budget

abbrev pub IsNoUtf8 : Kind → List ℕ → Type 0
IsNoUtf8 byte_string content = ⊥
IsNoUtf8 text_string content = ¬ (IsUtf8 content)

-- a string whose content is cut
abbrev pub CutString : Kind → Width → ℕ → Rejection
CutString k w b bs e rest =
    AtHead (kind_name k) (kind_major k) w b (Missing (kind_name k)) bs e rest

-- a whole text that is not UTF-8, and is consumed
pub record NoUtf8 (k : Kind) (n : ℕ) (bs : List ℕ) (e : InputError) (rest : List ℕ) : Type 0 where
  pub content : List ℕ
  pub long : length content ≡ n
  pub invalid : IsNoUtf8 k content
  pub is : bs ≡ content ++ rest
  pub err : e ≡ require_utf8 (kind_name k)

abbrev pub same_kind : Kind → Kind → Bool
same_kind byte_string byte_string = true
same_kind text_string text_string = true
same_kind _ _ = false

-- the error of no chunk: a string without a length, or an item that is no string of the kind
abbrev pub no_chunk : Bool → Kind → ℕ → InputError
no_chunk true k b = require_length (kind_name k) Indefinite
no_chunk false k b = mismatch (kind_name k) b

-- a chunk that is cut, or an item that is no chunk (section 3.2.3)
abbrev pub ChunkRejectsBy : Kind → Initial → ℕ → Rejection
ChunkRejectsBy k (starts_string j w) b bs e rest =
    MatchBool (same_kind j k) (CutString k w b bs e rest) (Is (mismatch (kind_name k) b) bs e rest)
ChunkRejectsBy k (starts_chunks j) b bs e rest = Is (no_chunk (same_kind j k) k b) bs e rest
ChunkRejectsBy k _ b bs e rest = Is (mismatch (kind_name k) b) bs e rest

-- no byte, or no step for the chunk, or a chunk that is rejected
abbrev pub ChunkRejects : Kind → Budget → Rejection
ChunkRejects k budget [] e rest = Is (eof break_name (Small 1)) [] e rest
ChunkRejects k budget (b ∷ bs) e rest =
    RejectsAtStep (kind_name k) (step_in budget) (b ∷ bs)
    (λ inner. ChunkRejectsBy k (initial b) b bs) e rest

-- a break after whole chunks that, joined, are no UTF-8
pub record NoUtf8Joined (k : Kind) (Whole : Tree → Type 0) (bs : List ℕ) (e : InputError)
    (rest : List ℕ) : Type 0 where
  pub chunks : Trees
  pub whole : Each Whole chunks
  pub is : bs ≡ bytes_all chunks ++ break ∷ rest
  pub invalid : IsNoUtf8 k (joined_chunks chunks)
  pub err : e ≡ require_utf8 (kind_name k)

-- It is rejected as what it is. Only where strings are tested, text that is no UTF-8 is rejected.
-- A chunk is a string of its kind, or an item under the budget that is left.
abbrev pub ChunkOf : Bool → Kind → Budget → (Tree → Type 0) → Tree → Type 0
ChunkOf true k budget Whole = ReadableChunk k budget
ChunkOf false k budget Whole = Whole

abbrev pub RejectsChunkBy : Bool → Kind → Budget → Rejection → Rejection
RejectsChunkBy true k budget rejects = ChunkRejects k budget
RejectsChunkBy false k budget rejects = rejects

abbrev pub OrTested : Bool → Type 0 → Type 0 → Type 0
OrTested true cut invalid = cut ⊎ invalid
OrTested false cut invalid = cut

-- ---- items

-- after its initial byte b, which says what begins, an item is rejected under the budget left
abbrev pub RejectsBy : Profile → (Budget → Rejection) → Budget → Initial → ℕ → Rejection
RejectsBy p rejects budget (starts_int s w) b bs e rest =
    Lacks p.asks (p.of_int s) (byte_count w) bs e rest
RejectsBy p rejects budget (bad_int s) b bs e rest =
    Is (mismatch (p.of_int s) b) (p.leaves b bs) e rest
RejectsBy p rejects budget (starts_string k w) b bs e rest =
    OrTested p.tests
    (AtHead (p.of_string k) (kind_major k) w b (Missing (p.of_string k)) bs e rest)
    (AfterHead (kind_major k) w b (NoUtf8 k) bs e rest)
RejectsBy p rejects budget (starts_chunks k) b bs e rest =
    OrTested p.tests
    (IndefiniteItems (ChunkOf p.tests k budget (p.Whole budget))
    (RejectsChunkBy p.tests k budget (rejects budget)) bs e rest)
    (NoUtf8Joined k (ChunkOf p.tests k budget (p.Whole budget)) bs e rest)
RejectsBy p rejects budget (bad_string k) b bs e rest =
    Is (mismatch (p.of_string k) b) bs e rest
RejectsBy p rejects budget (starts_array w) b bs e rest =
    RejectsAtStep p.of_array (p.inside budget) (b ∷ bs)
    (λ inner. AtHead p.of_array 4 w b (RejectsInCount (p.Whole inner) (rejects inner)) bs) e rest
RejectsBy p rejects budget starts_indefinite_array b bs e rest =
    RejectsAtStep p.of_array (p.inside budget) (b ∷ bs)
    (λ inner. IndefiniteItems (p.Whole inner) (rejects inner) bs) e rest
RejectsBy p rejects budget bad_array b bs e rest =
    RejectsAtStep p.of_array (p.inside budget) (b ∷ bs)
    (λ inner. Is (mismatch p.of_array b) bs) e rest
RejectsBy p rejects budget (starts_map w) b bs e rest =
    RejectsAtStep p.of_map (p.inside budget) (b ∷ bs) (λ inner. AtHead p.of_map 5 w b
    (λ n. RejectsInCount (p.Whole inner) (rejects inner) (2 * n)) bs) e rest
RejectsBy p rejects budget starts_indefinite_map b bs e rest =
    RejectsAtStep p.of_map (p.inside budget) (b ∷ bs)
    (λ inner. IndefinitePairs (p.Whole inner) (rejects inner) bs) e rest
RejectsBy p rejects budget bad_map b bs e rest =
    RejectsAtStep p.of_map (p.inside budget) (b ∷ bs) (λ inner. Is (mismatch p.of_map b) bs) e rest
RejectsBy p rejects budget (starts_tag w) b bs e rest =
    AtHead tag_name 6 w b (λ n. rejects budget) bs e rest
RejectsBy p rejects budget bad_tag b bs e rest = Is (mismatch tag_name b) bs e rest
RejectsBy p rejects budget (starts_simple s) b bs e rest = ⊥
RejectsBy p rejects budget (starts_bits q) b bs e rest =
    Lacks p.asks (p.of_float q) (precision_bytes q) bs e rest
RejectsBy p rejects budget other_simple b bs e rest =
    Is (unsupported p.of_item b) (b ∷ bs) e rest

abbrev pub RejectsFrom : Profile → (Budget → Rejection) → Budget → Rejection
RejectsFrom p rejects budget [] e rest = Is (eof p.of_item (Small 1)) [] e rest
RejectsFrom p rejects budget (b ∷ bs) e rest = RejectsBy p rejects budget (initial b) b bs e rest

-- More than the count of the bytes is enough, since each part stands at least one byte further on.
-- An item is rejected under the budget, where the number bounds how deep items nest.
abbrev pub RejectsWithin : Profile → ℕ → Budget → Rejection
RejectsWithin p zero budget bs e rest = ⊥
RejectsWithin p (suc n) budget bs e rest =
    RejectsAtStep p.of_item (step_in budget) bs
    (λ inner. RejectsFrom p (RejectsWithin p n) inner bs) e rest

-- the input's first item is rejected under the budget with the error, and leaves the rest
abbrev pub ItemRejects : Profile → List ℕ → Budget → InputError → List ℕ → Type 0
ItemRejects p input budget e rest = RejectsWithin p (suc (length input)) budget input e rest
