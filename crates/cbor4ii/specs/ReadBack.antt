-- What is written of a typed value is read back.
use Rattle.std.specs.Prelude.{◌≡◌, ◌≢◌, ◌⊎◌, ℕ, ◌<◌, ◌^◌, List, [], ◌∷◌, length, max, IsUtf8, refl}
use Rattle.std.specs.Prelude.{None, Some, Result, Ok, Err}
use Rattle.std.proofs.Common.{arith}
use Rattle.std.specs.declared.alloc.Global.{Global}
use Rattle.std.specs.declared.string.String.{String}
use denote.RawPtr.{null_ptr}
use Rattle.cbor4ii_rw.specs.View.{View}
use Rattle.cbor4ii_rw.specs.declared.error.DecodeError.{DecodeError}
use Rattle.cbor4ii_items.specs.Decoding.{Reads, Format}
use Rattle.cbor4ii_items.specs.InputError.{input_error_of}
use Rattle.cbor4ii_items.specs.ReadBack.{ReadsBack}
use Rattle.cbor4ii_ser.specs.Item.{Encoding, encoded, IfEncoded}
pub use Rattle.cbor4ii_ser.specs.Listed.{NamedItems, fields_of}
pub use Rattle.cbor4ii.specs.FieldKey.{IsName}
use Rattle.cbor4ii.specs.Fields.{ReadsNamed, after_changes}

-- the item, where there is one, is read as the value at this cost, whatever follows it
abbrev pub IsReadBack : {V : Type 0} → Reads V → Encoding → V → ℕ → Type 0
IsReadBack reads item v cost = IfEncoded item (λ bytes. ReadsBack reads bytes v cost)

-- the item, where there is one, begins with another byte than null and undefined
abbrev pub BeginsOther : Encoding → Type 0
BeginsOther item =
    IfEncoded item (λ bytes. (b : ℕ) × (bs : List ℕ) × (bytes ≡ b ∷ bs) × (b ≢ 0xf6) × (b ≢ 0xf7))

-- the item is null or undefined (RFC 8949 section 3.3)
abbrev pub IsNullItem : Encoding → Type 0
IsNullItem item = (item ≡ encoded (0xf6 ∷ [])) ⊎ (item ≡ encoded (0xf7 ∷ []))

-- What a call answers where bytes that stand for this value come first, and then others: a value
-- that means the same, and the others are left; or the reader failed, or memory was refused.
abbrev pub AnswersBack : {V E : Type 0} → Format V → V → (others : List ℕ) → View
    → Result V (DecodeError E) → Type 0
AnswersBack format v others new (Ok w) = format.same v w × (new.known ≡ Some others)
AnswersBack format v others new (Err error) = input_error_of error ≡ None

-- ---- structs

-- the text of these bytes
abbrev pub text_of : Global → (text : List ℕ) → IsUtf8 text → length text < 2 ^ 63 → String Global
text_of alloc text utf8 few = record {
  bytes = record {
    ptr = null_ptr;
    len = length text;
    cap = length text;
    alloc = alloc;
    items = text;
    ok = (refl, omega arith);
    small = few;
  };
  ok = ∣ utf8 ∣₁;
}

-- each item is read back after such a label as its change, at the greatest cost of one
abbrev pub ChangesBack : {V : Type 0} → (List ℕ → Type 0) → ReadsNamed V → NamedItems
    → List (V → V) → ℕ → Type 0
ChangesBack IsLabel named [] [] cost = cost ≡ 0
ChangesBack IsLabel named [] (change ∷ changes) cost = ⊥
ChangesBack IsLabel named (part ∷ parts) [] cost = ⊥
ChangesBack IsLabel named (part ∷ parts) (change ∷ changes) cost =
    (own : ℕ) × (others : ℕ) × IsLabel part.0 × IsReadBack (named part.0) part.1 change own
    × ChangesBack IsLabel named parts changes others × (cost ≡ max own others)

-- the items are read back in turn, after such labels, and make these values of the first ones
pub record FieldsBack {V : Type 0} (IsLabel : List ℕ → Type 0) (named : ReadsNamed V)
    (first values : V) (parts : NamedItems) (cost : ℕ) : Type 0 where
  pub changes : List (V → V)
  pub each : ChangesBack IsLabel named parts changes cost
  pub made : values ≡ after_changes first changes
