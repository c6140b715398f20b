-- What reading a value and skipping an item promise beside the headline, of the bytes that the
-- reader reports.
use Rattle.std.specs.Prelude.{◌≡◌, ◌≤◌, ◌+◌, ℕ, List, [], ◌++◌, length, take, Some, Result, IfOk}
use Rattle.cbor4ii_rw.specs.{View.{View, IfKnown}, declared.error.DecodeError.DecodeError}
use Rattle.cbor4ii_items.specs.{Budget.CostFits, Decoding.{Format, leaf_format, format_by}}
use Rattle.cbor4ii_items.specs.Decoding.{taking_memory}
use Rattle.cbor4ii_tree.specs.{Basis.Tree.{Tree, bytes, Loose}, Basis.Item.{Item, size}}
use Rattle.cbor4ii_tree.specs.{Basis.Cost.{Budget, skip_cost}, Basis.InputError.{InputError, IsEof}}
use Rattle.cbor4ii_tree.specs.Basis.InputError.{IsDepthOverflow, IsFinal, MayReject}
use Rattle.cbor4ii_tree.specs.Basis.Encodings.{Encodes, DecodesTo, Skips, IsProperPrefix}
use Rattle.cbor4ii_tree.specs.Calls.SkippingRejects.{SkippingRejects}
use Rattle.cbor4ii_tree.specs.{Calls.ReadingRejects.ReadingRejects, Basis.Headline.Answered}
use Rattle.cbor4ii_tree.specs.{Basis.Headline.Rejected, Basis.View.view, declared.value.Value.Value}

-- the first n bytes are an encoding of the value, in c steps
pub record ReadsValue (xs : List ℕ) (v : Item) (n c : ℕ) : Type 0 where
  pub within : n ≤ length xs
  pub encodes : Encodes (take n xs) v c

-- a value, read from any encoding of it
abbrev pub value_format : Format Value
value_format = format_by view (taking_memory (leaf_format ReadsValue ReadingRejects))

-- no other error comes than those that `MayReject` allows
abbrev pub Others : {V E : Type 0} → View → Result V (DecodeError E) → Type 0
Others old answer = IfKnown old.known (λ xs. Rejected MayReject answer)

-- ---- an item is skipped

-- what skipping accepts fits, and begins the bytes
abbrev pub OnlySkips : {V E : Type 0} → View → View → Result V (DecodeError E) → Type 0
OnlySkips old new answer = IfKnown old.known (λ xs. IfOk answer (λ _.
    (t : Tree) × (rest : List ℕ) × (new.known ≡ Some rest) × Skips xs old.budget t rest))

-- a proper prefix of what fits is an end of the input
abbrev pub PrefixSkips : {V E : Type 0} → View → Result V (DecodeError E) → Type 0
PrefixSkips old answer = IfKnown old.known (λ xs. (t : Tree) →
    Loose t → CostFits (skip_cost t) old.budget → IsProperPrefix xs (bytes t) →
    Answered (λ _. ⊥) IsEof answer)

-- an end of the input leaves nothing, and comes only on a proper prefix of an item
abbrev pub EofSkips : {V E : Type 0} → View → View → Result V (DecodeError E) → Type 0
EofSkips old new answer = IfKnown old.known (λ xs. Rejected (λ e. IsEof e →
    (new.known ≡ Some []) × ((t : Tree) × Loose t × IsProperPrefix xs (bytes t))) answer)

-- where no step is left, no continuation fits
abbrev pub DepthSkips : {V E : Type 0} → View → Result V (DecodeError E) → Type 0
DepthSkips old answer = IfKnown old.known (λ xs. Rejected (λ e. IsDepthOverflow e →
    (more : List ℕ) (t : Tree) (after : List ℕ) →
    ¬ (Skips (xs ++ more) old.budget t after)) answer)

-- after a final error no continuation fits any budget
abbrev pub FinalSkips : {V E : Type 0} → View → Result V (DecodeError E) → Type 0
FinalSkips old answer = IfKnown old.known (λ xs. Rejected (λ e. IsFinal e →
    (more : List ℕ) (other : Budget) (t : Tree) (after : List ℕ) →
    ¬ (Skips (xs ++ more) other t after)) answer)

-- where `SkippingRejects` gives an error, that error is answered, and what it leaves is left
abbrev pub ExactSkips : {V E : Type 0} → View → View → Result V (DecodeError E) → Type 0
ExactSkips old new answer = IfKnown old.known (λ xs. (e : InputError) (rest : List ℕ) →
    SkippingRejects xs old.budget e rest →
    Answered (λ _. ⊥) (λ f. (f ≡ e) × (new.known ≡ Some rest)) answer)

-- ---- a value is read

-- where no step is left, no continuation fits
abbrev pub DepthReads : {E : Type 0} → View → Result Value (DecodeError E) → Type 0
DepthReads old answer = IfKnown old.known (λ xs. Rejected (λ e. IsDepthOverflow e →
    (more : List ℕ) (v : Item) (after : List ℕ) →
    ¬ (DecodesTo (xs ++ more) old.budget v after)) answer)

-- after a final error no continuation fits any budget
abbrev pub FinalReads : {E : Type 0} → View → Result Value (DecodeError E) → Type 0
FinalReads old answer = IfKnown old.known (λ xs. Rejected (λ e. IsFinal e →
    (more : List ℕ) (other : Budget) (v : Item) (after : List ℕ) →
    ¬ (DecodesTo (xs ++ more) other v after)) answer)

-- where `ReadingRejects` gives an error, that error is answered, and what it leaves is left
abbrev pub ExactReads : {E : Type 0} → View → View → Result Value (DecodeError E) → Type 0
ExactReads old new answer = IfKnown old.known (λ xs. (e : InputError) (rest : List ℕ) →
    ReadingRejects xs old.budget e rest →
    Answered (λ _. ⊥) (λ f. (f ≡ e) × (new.known ≡ Some rest)) answer)

-- a value is no larger than the bytes that were taken
abbrev pub SizeReads : {E : Type 0} → View → View → Result Value (DecodeError E) → Type 0
SizeReads old new answer = IfKnown old.known (λ xs. IfOk answer (λ v.
    (rest : List ℕ) × (new.known ≡ Some rest) × (size (view v) + length rest ≤ length xs)))
