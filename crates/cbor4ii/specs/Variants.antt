-- Variants: a name alone, or a map of one pair, from the name to the content.
use Rattle.std.specs.Prelude.{◌≡◌, ◌≢◌, ◌⊎◌, ℕ, ◌+◌, ◌/◌, Bool, true, false, List, [], ◌∷◌, take}
use Rattle.std.specs.Prelude.{drop, Some, Result, IsErrAnd, codes}
use Rattle.std.specs.Borrow.{MutBor}
use Rattle.cbor4ii_rw.specs.View.{View}
use Rattle.cbor4ii_rw.specs.Reader.{StepsIn, KeepsAllButBudget}
use Rattle.cbor4ii_rw.specs.declared.error.DecodeError.{DecodeError}
use Rattle.cbor4ii_rw.specs.declared.error.Len.TheVariants.{Small}
use Rattle.cbor4ii_items.specs.Moves.{Kept}
use Rattle.cbor4ii_items.specs.Decoding.{Reads, RejectsAt, Sound, Format, looking_format}
use Rattle.cbor4ii_items.specs.InputError.{input_error_of, eof, mismatch}
use Rattle.cbor4ii_items.specs.Sequences.{ReadsPair}
use Rattle.cbor4ii_items.specs.Strings.{ReadsText}
use Rattle.cbor4ii.specs.declared.serde.de.deserializer.Deserializer.{Deserializer}
use Rattle.cbor4ii.specs.declared.serde.de.enum_accessor.EnumAccessor.{EnumAccessor}
use Rattle.cbor4ii.specs.Stepped.{Stepped}

-- what the reader under an accessor reports
abbrev pub inside_enum : {S E : Type 0} → (S → View) → EnumAccessor S E → View
inside_enum view accessor = view accessor.de.now.reader

-- the reference that an accessor holds to the deserializer from which name and content are read
abbrev pub reference_of_enum : {S E : Type 0} → EnumAccessor S E → MutBor (Deserializer S)
reference_of_enum accessor = accessor.de

abbrev pub deserializer_of_enum : {S E : Type 0} → EnumAccessor S E → Deserializer S
deserializer_of_enum accessor = accessor.de.now

-- which reference an accessor holds to its deserializer
abbrev pub enum_accessor_name : {S E : Type 0} → EnumAccessor S E → ℕ
enum_accessor_name accessor = accessor.de.ghost_name

-- whether a content follows the name, and the first byte
abbrev pub form_of : {S E : Type 0} → EnumAccessor S E → Bool × ℕ
form_of accessor = (accessor.content, accessor.found)

-- an accessor whose deserializer is this one
abbrev pub with_content : {S E : Type 0} → EnumAccessor S E → Deserializer S → EnumAccessor S E
with_content accessor last = record accessor { de = record accessor.de { now = last } }

-- the head of a map of one pair is taken, and that of a text stays (RFC 8949 section 3.1)
abbrev pub IsForm : Bool → ℕ → ℕ → Type 0
IsForm true first n = (first ≡ 0xa1) × (n ≡ 1)
IsForm false first n = (first / 32 ≡ 3) × (n ≡ 0)

-- which form a variant has, and the first byte
abbrev pub ReadsForm : Reads (Bool × ℕ)
ReadsForm xs form n c = (take 1 xs ≡ form.1 ∷ []) × IsForm form.0 form.1 n × (c ≡ 0)

-- no byte is left, or the first one begins neither form of a variant, and stays
abbrev pub RejectsForm : RejectsAt
RejectsForm [] budget err rest = (err ≡ eof (codes "enum") (Small 1)) × (rest ≡ [])
RejectsForm (b ∷ bs) budget err rest =
    (b ≢ 0xa1) × (b / 32 ≢ 3) × (err ≡ mismatch (codes "enum") b) × (rest ≡ b ∷ bs)

-- which form a variant has: its name alone, or a map of one pair
abbrev pub form_format : Format (Bool × ℕ)
form_format = looking_format ReadsForm RejectsForm

-- A step was taken, and then it was read which form the variant has.
pub record OpensEnum (old new : View) (form : Bool × ℕ) : Type 0 where
  pub within : View
  pub step : StepsIn old.budget within.budget true
  pub others : KeepsAllButBudget old within
  pub kept : Kept within new
  pub head : Sound ReadsForm within new form

-- the content of a variant that has one
abbrev pub ReadsContent : {V : Type 0} → Bool → Reads V → Reads V
ReadsContent true reads xs v n c = reads xs v n c
ReadsContent false reads xs v n c = ⊥

-- the answer is that the variant has the other form, by its first byte
abbrev pub SaysOther : {V E : Type 0} → ℕ → Result V (DecodeError E) → Type 0
SaysOther first answer =
    IsErrAnd answer (λ error. input_error_of error ≡ Some (mismatch (codes "enum") first))

-- the variant has no content, and nothing is taken; or its content is rejected
abbrev pub RejectsContent : Bool × ℕ → RejectsAt → RejectsAt
RejectsContent form rejects xs budget err rest = elim form.0 [
  | true ↦ rejects xs budget err rest
  | false ↦ (err ≡ mismatch (codes "enum") form.1) × (rest ≡ xs)
]

-- ---- a whole variant, by which values each name alone stands for, and how the content after
-- each name is read

-- a variant without content: a text, which is its name (RFC 8949 section 3.1)
abbrev pub ReadsUnitVariant : {V : Type 0} → (List ℕ → V → Type 0) → Reads V
ReadsUnitVariant units xs v n c = (name : List ℕ) × ReadsText xs name n c × units name v

-- another variant: the head of a map of one pair, its name as a text, and its content
abbrev pub ReadsPairVariant : {V : Type 0} → (List ℕ → Reads V) → Reads V
ReadsPairVariant contents xs v n c =
    (take 1 xs ≡ 0xa1 ∷ []) × (name : List ℕ) × (k : ℕ)
    × ReadsPair ReadsText (contents name) (drop 1 xs) (name, v) k c × (n ≡ 1 + k)

-- Without content it is read at the cost of its name, else at the greater of name and content.
-- A variant is read under one step.
abbrev pub ReadsVariant : {V : Type 0} → (List ℕ → V → Type 0) → (List ℕ → Reads V) → Reads V
ReadsVariant units contents =
    Stepped (λ xs v n c. ReadsUnitVariant units xs v n c ⊎ ReadsPairVariant contents xs v n c)
