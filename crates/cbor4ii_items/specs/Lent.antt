-- Borrowed strings: slices of the input (RFC 8949 section 3.1).
use Rattle.std.specs.Prelude.{◌≡◌, ℕ, ◌+◌, ◌<◌, ◌≤◌, Bool, true, false, List, length, take, drop}
use Rattle.std.specs.Prelude.{None, Some, Option, Result, Ok, Err, IsTrue, IsUtf8}
use Rattle.cbor4ii_rw.specs.View.{View, IfKnown, place_after, BeginsAt}
use Rattle.cbor4ii_rw.specs.Reader.{Keeps}
use Rattle.cbor4ii_rw.specs.declared.error.DecodeError.{DecodeError}
use Rattle.cbor4ii_items.specs.declared.strings.lent.Lacks.{Lacks}
use Rattle.cbor4ii_items.specs.declared.strings.lent.Lacks.TheVariants.{Read, Short, Few, NotUtf8}
use Rattle.cbor4ii_items.specs.Moves.{Kept, ReaderFailed}
use Rattle.cbor4ii_items.specs.InputError.{InputError, input_error_of, is_read, is_out_of_memory}
use Rattle.cbor4ii_items.specs.InputError.{is_depth_overflow, require_length, require_borrowed}
use Rattle.cbor4ii_items.specs.InputError.{require_utf8, len_of}
use Rattle.cbor4ii_items.specs.Heads.{ReadsHead, RejectsHead}
use Rattle.cbor4ii_items.specs.Strings.{ReadsDefiniteString}
use denote.Ref.{Bor}
use Rattle.cbor4ii_items.specs.declared.types.Bytes.{Bytes}
use Rattle.cbor4ii_items.specs.declared.types.UncheckedStr.{UncheckedStr}
use Rattle.cbor4ii_items.specs.Decoding.{Reads, Format}

-- ---- what is read

-- a string of definite length, whose content a value has; a text is UTF-8
abbrev pub ReadsBorrowed : {V : Type 0} → ℕ → Bool → (V → List ℕ) → Reads V
ReadsBorrowed major is_text content xs v n c =
    ReadsDefiniteString major xs (content v) n × (c ≡ 0) × (IsTrue is_text → IsUtf8 (content v))

-- With too few bytes what follows the head is left, and with no UTF-8 what follows the item.
-- The head is rejected, too few bytes follow it, or a text is no UTF-8.
pub data RejectsBorrowed (name : List ℕ) (major : ℕ) (is_text : Bool) (xs : List ℕ)
    (budget : Option ℕ)
    (err : InputError) (rest : List ℕ) : Type 0 where
  lent_head_rejected : RejectsHead name major 8 xs err rest
      → RejectsBorrowed name major is_text xs budget err rest
  too_few : (count before : ℕ) → ReadsHead major 8 xs count before → length xs < before + count
      → err ≡ require_length name (len_of (length (drop before xs))) → rest ≡ drop before xs
      → RejectsBorrowed name major is_text xs budget err rest
  lent_no_utf8 : (content : List ℕ) (n : ℕ) → IsTrue is_text → ReadsDefiniteString major xs
      content n
      → (IsUtf8 content → ⊥) → err ≡ require_utf8 name → rest ≡ drop n xs
      → RejectsBorrowed name major is_text xs budget err rest

-- With no or too little content what follows the head is left, with no UTF-8 what follows the item.
-- Over any reader the head is rejected, no content is lent or too little, or a text is no UTF-8.
pub data BeginsBorrowed (name : List ℕ) (major : ℕ) (is_text : Bool) (xs : List ℕ)
    (budget : Option ℕ)
    (err : InputError) (rest : List ℕ) : Type 0 where
  begins_rejected : RejectsHead name major 8 xs err rest
      → BeginsBorrowed name major is_text xs budget err rest
  none_is_lent : (count before : ℕ) → ReadsHead major 8 xs count before
      → err ≡ require_borrowed name → rest ≡ drop before xs
      → BeginsBorrowed name major is_text xs budget err rest
  few_are_lent : (count before shown : ℕ) → ReadsHead major 8 xs count before → shown < count
      → err ≡ require_length name (len_of shown) → rest ≡ drop before xs
      → BeginsBorrowed name major is_text xs budget err rest
  begins_no_utf8 : (content : List ℕ) (n : ℕ) → IsTrue is_text
      → ReadsDefiniteString major xs content n → (IsUtf8 content → ⊥) → err ≡ require_utf8 name
      → rest ≡ drop n xs → BeginsBorrowed name major is_text xs budget err rest

-- What is rejected over any reader depends on how it cuts.
-- A type that needs a borrowed slice of the input.
abbrev pub lent_format : {V : Type 0} → List ℕ → ℕ → Bool → (V → List ℕ) → Format V
lent_format name major is_text content = record {
  reads = ReadsBorrowed major is_text content;
  same = λ v w. content v ≡ content w;
  rejects = RejectsBorrowed name major is_text;
  begins = BeginsBorrowed name major is_text;
  never_empty = true;
  owned = false;
  takes_memory = false;
  closed = true;
}

-- ---- a content that is lent

-- What is left begins right after them, where the reader reports the place of its end.
-- The bytes are the input's own, which it reports.
abbrev pub IsOfInput : Bor (List ℕ) → View → View → Type 0
IsOfInput bytes old new = IfKnown old.known (λ xs. BeginsAt (place_after bytes) new)

-- so many bytes were taken, and are the content
pub record Lends (count : ℕ) (content : List ℕ) (old new : View) : Type 0 where
  pub kept : Kept old new
  pub at : IfKnown old.known
      (λ xs. (count ≤ length xs) × (new.known ≡ Some (drop count xs)) × (content ≡ take count xs))

-- nothing was taken
pub record Stays (old new : View) : Type 0 where
  pub kept : Kept old new
  pub known : Keeps old.known new.known

-- why so many bytes are not lent: a zero-copy reader has fewer left
abbrev pub LacksContent : {E : Type 0} → ℕ → Bool → View → View → Lacks E → Type 0
LacksContent count is_text old new (Read e) = ReaderFailed old new
LacksContent count is_text old new Short = Stays old new × (IsTrue old.zero_copy → ⊥)
LacksContent count is_text old new (Few n) =
    Stays old new
    × (IsTrue old.zero_copy → IfKnown old.known (λ xs. (length xs < count) × (n ≡ length xs)))
    × (n < count)
LacksContent count is_text old new NotUtf8 =
    (content : List ℕ) × IsTrue is_text × Lends count content old new × (IsUtf8 content → ⊥)

-- ---- what is lacking, with its name

abbrev pub lack_error : {E : Type 0} → List ℕ → Lacks E → Option InputError
lack_error name (Read e) = None
lack_error name Short = Some (require_borrowed name)
lack_error name (Few n) = Some (require_length name (len_of n))
lack_error name NotUtf8 = Some (require_utf8 name)

abbrev pub lack_is_read : {E : Type 0} → Lacks E → Bool
lack_is_read (Read e) = true
lack_is_read _ = false

-- the error says what is lacking
pub record SaysLack {E : Type 0} (name : List ℕ) (lack : Lacks E)
    (error : DecodeError E) : Type 0 where
  pub err : input_error_of error ≡ lack_error name lack
  pub read : is_read error ≡ lack_is_read lack
  pub memory : is_out_of_memory error ≡ false
  pub depth : is_depth_overflow error ≡ false

abbrev pub Named : {V E : Type 0} → List ℕ → Result V (Lacks E) → Result V (DecodeError E) → Type 0
Named name (Ok v) (Ok w) = v ≡ w
Named name (Ok v) (Err e) = ⊥
Named name (Err lack) (Ok w) = ⊥
Named name (Err lack) (Err e) = SaysLack name lack e

-- ---- the types that a content is lent to

-- nothing is said of where a text stands: std's test for UTF-8 reports no place
abbrev pub stands_anywhere : {V : Type 0} → V → View → Type 0
stands_anywhere v view = Unit {0}

abbrev pub bytes_stand : Bytes (Bor (List ℕ)) → View → Type 0
bytes_stand v view = BeginsAt (place_after v.0) view

abbrev pub unchecked_stands : UncheckedStr (Bor (List ℕ)) → View → Type 0
unchecked_stands v view = BeginsAt (place_after v.0) view

-- the bytes of a text that is lent
abbrev pub lent_str : Bor (List ℕ) → List ℕ
lent_str v = v.now

abbrev pub lent_bytes : Bytes (Bor (List ℕ)) → List ℕ
lent_bytes v = v.0.now

abbrev pub lent_unchecked : UncheckedStr (Bor (List ℕ)) → List ℕ
lent_unchecked v = v.0.now
