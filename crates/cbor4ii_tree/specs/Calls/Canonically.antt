-- What reading a value from its canonical encoding promises of the bytes that the reader reports.
use Rattle.std.specs.Prelude.{◌≡◌, ◌≤◌, ℕ, List, ◌++◌, length, take, Some, Result, IfOk, ◌⊎◌}
use Rattle.cbor4ii_rw.specs.{View.{View, IfKnown}, declared.error.DecodeError.DecodeError}
use Rattle.cbor4ii_items.specs.Decoding.{Reads as ReadsOf, Format, leaf_format, format_by}
use Rattle.cbor4ii_items.specs.{Decoding.taking_memory, Budget.CostFits, InputError.InputError}
use Rattle.cbor4ii_items.specs.InputError.{not_canonical}
use Rattle.cbor4ii_tree.specs.{Basis.Item.Item, Basis.Cost.Budget}
use Rattle.cbor4ii_tree.specs.Basis.Canonical.{canonical_encoding, canonical_cost}
use Rattle.cbor4ii_tree.specs.Basis.InputError.{IsEof, IsDepthOverflow, IsFinal, MayReject}
use Rattle.cbor4ii_tree.specs.{Basis.Encodings.IsProperPrefix, Calls.CanonicalShape.IsDecoded}
use Rattle.cbor4ii_tree.specs.Calls.CanonicalShape.{EncodesCanonically, DecodesCanonically}
use Rattle.cbor4ii_tree.specs.Calls.ReadingRejects.{ReadingRejects}
use Rattle.cbor4ii_tree.specs.{Calls.CanonicalRejects.CanonicalRejects, Basis.Headline.Answered}
use Rattle.cbor4ii_tree.specs.{Basis.Headline.Rejected, Basis.View.view}
use Rattle.cbor4ii_tree.specs.declared.decode_canonical.Canonical.{Canonical}

-- the first n bytes are the canonical encoding of the value, in c steps
pub record ReadsCanonicalItem (xs : List ℕ) (v : Item) (n c : ℕ) : Type 0 where
  pub within : n ≤ length xs
  pub encodes : EncodesCanonically (take n xs) v c

abbrev pub ReadsCanonical : ReadsOf Canonical
ReadsCanonical xs v n c = ReadsCanonicalItem xs (view v.0) n c

abbrev pub canonical_format : Format Canonical
canonical_format =
    format_by (λ v. view v.0) (taking_memory (leaf_format ReadsCanonicalItem CanonicalRejects))

-- the error says that an encoding is not the canonical one
abbrev pub IsNotCanonical : InputError → Type 0
IsNotCanonical (not_canonical name) = Unit {0}
IsNotCanonical _ = ⊥

-- what is accepted is a value of which a canonical tree that fits begins the bytes and is taken
abbrev pub OnlyCanonical : {E : Type 0} → View → View → Result Canonical (DecodeError E) → Type 0
OnlyCanonical old new answer = IfKnown old.known (λ xs. IfOk answer (λ v.
    (rest : List ℕ) × (new.known ≡ Some rest) × DecodesCanonically xs old.budget (view v.0) rest))

-- a value of which a canonical tree that fits begins the bytes is accepted, and that tree is taken
abbrev pub AllCanonical : {E : Type 0} → View → View → Result Canonical (DecodeError E) → Type 0
AllCanonical old new answer = IfKnown old.known (λ xs. (v : Item) (rest : List ℕ) →
    DecodesCanonically xs old.budget v rest →
    Answered (λ w. (view w.0 ≡ v) × (new.known ≡ Some rest)) (λ _. ⊥) answer)

-- In other words than `OnlyCanonical`: the value is one that reading gives, and its cost fits.
-- The canonical encoding of what is accepted begins the bytes, and is taken.
abbrev pub TakesEncoding : {E : Type 0} → View → View → Result Canonical (DecodeError E) → Type 0
TakesEncoding old new answer = IfKnown old.known (λ xs. IfOk answer (λ v.
    (rest : List ℕ) × (new.known ≡ Some rest) × IsDecoded (view v.0)
    × CostFits (canonical_cost (view v.0)) old.budget ×
    (xs ≡ canonical_encoding (view v.0) ++ rest)))

-- The value is one that reading gives, and its cost fits.
-- A value whose canonical encoding begins the bytes is accepted, and that encoding is taken.
abbrev pub EveryEncoding : {E : Type 0} → View → View → Result Canonical (DecodeError E) → Type 0
EveryEncoding old new answer = IfKnown old.known (λ xs. (v : Item) (rest : List ℕ) →
    IsDecoded v → CostFits (canonical_cost v) old.budget → xs ≡ canonical_encoding v ++ rest →
    Answered (λ w. (view w.0 ≡ v) × (new.known ≡ Some rest)) (λ _. ⊥) answer)

-- a proper prefix of a canonical encoding that fits is an end of the input
abbrev pub PrefixCanonical : {E : Type 0} → View → Result Canonical (DecodeError E) → Type 0
PrefixCanonical old answer = IfKnown old.known (λ xs. (v : Item) →
    IsDecoded v → CostFits (canonical_cost v) old.budget → IsProperPrefix xs
    (canonical_encoding v) →
    Answered (λ _. ⊥) IsEof answer)

-- where no step is left, no continuation is accepted under the budget
abbrev pub DepthCanonical : {E : Type 0} → View → Result Canonical (DecodeError E) → Type 0
DepthCanonical old answer = IfKnown old.known (λ xs. Rejected (λ e. IsDepthOverflow e →
    (more : List ℕ) (v : Item) (after : List ℕ) →
    ¬ (DecodesCanonically (xs ++ more) old.budget v after)) answer)

-- a final or not-canonical error comes only where no continuation is accepted under any budget
abbrev pub NeverCanonical : {E : Type 0} → View → Result Canonical (DecodeError E) → Type 0
NeverCanonical old answer = IfKnown old.known (λ xs.
    Rejected (λ e. IsFinal e ⊎ IsNotCanonical e → (more : List ℕ) (other : Budget) (v : Item)
    (after : List ℕ) → ¬ (DecodesCanonically (xs ++ more) other v after)) answer)

-- where `CanonicalRejects` gives an error, that error is answered, and what it leaves is left
abbrev pub ExactCanonical : {E : Type 0} → View → View → Result Canonical (DecodeError E) → Type 0
ExactCanonical old new answer = IfKnown old.known (λ xs. (e : InputError) (rest : List ℕ) →
    CanonicalRejects xs old.budget e rest →
    Answered (λ _. ⊥) (λ f. (f ≡ e) × (new.known ≡ Some rest)) answer)

-- no other error comes than those of a value, and that an encoding is not the canonical one
abbrev pub OthersCanonical : {E : Type 0} → View → Result Canonical (DecodeError E) → Type 0
OthersCanonical old answer =
    IfKnown old.known (λ xs. Rejected (λ e. MayReject e ⊎ IsNotCanonical e) answer)

-- each error but not-canonical is that of reading the bytes as a value, and leaves what that leaves
abbrev pub ValueCanonical : {E : Type 0} → View → View → Result Canonical (DecodeError E) → Type 0
ValueCanonical old new answer = IfKnown old.known (λ xs. Rejected (λ e. ¬ (IsNotCanonical e) →
    (rest : List ℕ) × (new.known ≡ Some rest) × ReadingRejects xs old.budget e rest) answer)
