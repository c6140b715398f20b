-- Strings that are borrowed from the input or owned (RFC 8949 sections 3.1 and 3.2.3).
use Rattle.std.specs.Prelude.{◌≡◌, ℕ, Bool, true, false, List, [], ◌∷◌, take, Option, None, Some}
use Rattle.std.specs.Prelude.{Result, Ok, Err, IsTrue, IsUtf8}
use Rattle.std.specs.declared.alloc.Global.{Global}
use Rattle.std.specs.declared.borrow.CowStr.{CowStr}
use Rattle.std.specs.declared.borrow.CowSlice.{CowSlice}
use Rattle.std.specs.declared.borrow.CowSlice.TheVariants.{Borrowed, Owned}
use Rattle.std.specs.Cow.{cow_str_bytes, cow_slice_items, IsBorrowedSlice, IsOwnedSlice}
use Rattle.cbor4ii_rw.specs.View.{View, IfKnown, place_after, BeginsAt}
use Rattle.cbor4ii_rw.specs.declared.error.DecodeError.{DecodeError}
use Rattle.cbor4ii_items.specs.declared.types.Bytes.{Bytes}
use Rattle.cbor4ii_items.specs.declared.types.UncheckedStr.{UncheckedStr}
use Rattle.cbor4ii_items.specs.Head.{indefinite_head}
use Rattle.cbor4ii_items.specs.Reading.{Reading, Runs}
use Rattle.cbor4ii_items.specs.Strings.{as_format, text_format}
use Rattle.cbor4ii_items.specs.Decoding.{Format}

-- ---- which strings are borrowed

-- a string of indefinite length is owned, one of definite length borrowed over a zero-copy reader
pub record BorrowsWhereDefinite {V : Type 0} (major : ℕ) (IsBorrowed IsOwned : V → Type 0)
    (old : View) (v : V) : Type 0 where
  pub indefinite : IfKnown old.known (λ xs. take 1 xs ≡ indefinite_head major ∷ [] → IsOwned v)
  pub definite : IsTrue old.zero_copy
      → IfKnown old.known (λ xs. (take 1 xs ≡ indefinite_head major ∷ [] → ⊥) → IsBorrowed v)

-- ---- the types: the content, and whether it is borrowed

-- the bytes of a text that is borrowed or owned
abbrev pub cow_text : CowStr Global → List ℕ
cow_text v = cow_str_bytes v

abbrev pub cow_bytes : Bytes (CowSlice ℕ Global) → List ℕ
cow_bytes v = cow_slice_items v.0

abbrev pub cow_unchecked : UncheckedStr (CowSlice ℕ Global) → List ℕ
cow_unchecked v = cow_slice_items v.0

-- the byte string is borrowed
abbrev pub IsBorrowedBytes : Bytes (CowSlice ℕ Global) → Type 0
IsBorrowedBytes v = IsBorrowedSlice v.0

-- the byte string is owned
abbrev pub IsOwnedBytes : Bytes (CowSlice ℕ Global) → Type 0
IsOwnedBytes v = IsOwnedSlice v.0

abbrev pub IsBorrowedUnchecked : UncheckedStr (CowSlice ℕ Global) → Type 0
IsBorrowedUnchecked v = IsBorrowedSlice v.0

abbrev pub IsOwnedUnchecked : UncheckedStr (CowSlice ℕ Global) → Type 0
IsOwnedUnchecked v = IsOwnedSlice v.0

-- What is left begins right after it, where the reader reports the place of its end.
-- A borrowed slice is the input's own.
abbrev pub slice_stands : CowSlice ℕ Global → View → Type 0
slice_stands (Borrowed bytes) view = BeginsAt (place_after bytes) view
slice_stands (Owned bytes) view = Unit {0}

-- the proof that an owned slice stands in any view: nothing is owed of it
pub owned_stands : (v : CowSlice ℕ Global) (view : View) → IsOwnedSlice v → slice_stands v view
owned_stands (Borrowed bytes) view owned = absurd owned
owned_stands (Owned bytes) view owned = tt

abbrev pub cow_bytes_stand : Bytes (CowSlice ℕ Global) → View → Type 0
cow_bytes_stand v view = slice_stands v.0 view

abbrev pub cow_unchecked_stands : UncheckedStr (CowSlice ℕ Global) → View → Type 0
cow_unchecked_stands v view = slice_stands v.0 view

-- ---- a text, or a string that is not tested

abbrev pub either_format : {V : Type 0} → Bool → List ℕ → ℕ → (V → List ℕ) → Format V
either_format true name major content = text_format name content
either_format false name major content = as_format name major content

-- the value has this content, which is UTF-8 where it is to be; or there is none, since it is not
abbrev pub Holds : {V : Type 0} → Bool → (V → List ℕ) → List ℕ → Option V → Type 0
Holds is_text content items (Some v) = (content v ≡ items) × (IsTrue is_text → IsUtf8 (content v))
Holds is_text content items None = IsTrue is_text × (IsUtf8 items → ⊥)

-- the program's content was read, and the answer holds it; or the program was rejected
abbrev pub TakesBy : {V E : Type 0} → Reading (List ℕ) → Bool → (V → List ℕ) → View → View
    → Result (Option V) (DecodeError E) → Type 0
TakesBy {E = E} program is_text content old new (Ok value) =
    (items : List ℕ) × Runs {E = E} program old new (Ok items) × Holds is_text content items value
TakesBy {E = E} program is_text content old new (Err e) = Runs {E = E} program old new (Err e)

-- a call does what the program does where there is memory, and makes a value of the content
pub record TakesContent {V E : Type 0} (program : Reading (List ℕ)) (is_text : Bool)
    (content : V → List ℕ) (old new : View)
    (answer : Result (Option V) (DecodeError E)) : Type 0 where
  pub by : TakesBy program is_text content old new answer

-- where the reader is zero-copy and reports its bytes, the value is borrowed
abbrev pub IsBorrowedWhereWhole : {V : Type 0} → (V → Type 0) → View → V → Type 0
IsBorrowedWhereWhole IsBorrowed old v =
    IsTrue old.zero_copy → IfKnown old.known (λ xs. IsBorrowed v)

-- of bytes nothing is owed that is owed of texts
pub nothing_to_test : {m n : ℕ} → IsTrue false → m ≡ n
nothing_to_test f = cc
