-- The headline: what reading a value, skipping an item and writing a value promise together, of the
-- bytes that the reader reports.
use Rattle.std.specs.Prelude.{◌≡◌, ◌≤◌, ℕ, List, [], ◌++◌, Some, Result, Ok, Err, IfOk, IfSome}
use Rattle.std.specs.Prelude.{length}
use Rattle.cbor4ii_rw.specs.View.{View, IfKnown}
use Rattle.cbor4ii_rw.specs.declared.error.{DecodeError.DecodeError, WholeError.WholeError}
use Rattle.cbor4ii_rw.specs.declared.error.WholeError.TheVariants.{Decode, Trailing}
use Rattle.cbor4ii_items.specs.{Budget.CostFits, InputError.input_error_of}
use Rattle.cbor4ii_tree.specs.Basis.{Tree.{Tree, bytes, Loose, Joins}, Item.Item, Cost.Budget}
use Rattle.cbor4ii_tree.specs.Basis.Canonical.{canonical_encoding, canonical_cost, with_bignums}
use Rattle.cbor4ii_tree.specs.Basis.{InputError.{InputError, IsEof}, Encodings.{Encodes, DecodesTo}}
use Rattle.cbor4ii_tree.specs.Basis.{Encodings.{Skips, IsProperPrefix}, View.view}
use Rattle.cbor4ii_tree.specs.declared.value.Value.{Value}

-- what an answer says of the bytes: a failure of the reader and a want of memory say nothing
abbrev pub Answered : {V E : Type 0} → (V → Type 0) → (InputError → Type 0) →
    Result V (DecodeError E) → Type 0
Answered accepts errs (Ok v) = accepts v
Answered accepts errs (Err e) = IfSome (input_error_of e) errs

-- what an error says of the bytes
abbrev pub Rejected : {V E : Type 0} → (InputError → Type 0) → Result V (DecodeError E) → Type 0
Rejected errs answer = Answered (λ _. Unit {0}) errs answer

-- ---- `Value::decode`

-- what is accepted is a value of which an encoding that fits begins the bytes, and that is taken
abbrev pub OnlyReads : {E : Type 0} → View → View → Result Value (DecodeError E) → Type 0
OnlyReads old new answer = IfKnown old.known (λ xs. IfOk answer (λ v.
    (rest : List ℕ) × (new.known ≡ Some rest) × DecodesTo xs old.budget (view v) rest))

-- a value of which an encoding that fits begins the bytes is accepted, and that encoding is taken
abbrev pub AllReads : {E : Type 0} → View → View → Result Value (DecodeError E) → Type 0
AllReads old new answer = IfKnown old.known (λ xs. (v : Item) (rest : List ℕ) →
    DecodesTo xs old.budget v rest →
    Answered (λ w. (view w ≡ v) × (new.known ≡ Some rest)) (λ _. ⊥) answer)

-- a proper prefix of an encoding that fits is an end of the input
abbrev pub PrefixReads : {E : Type 0} → View → Result Value (DecodeError E) → Type 0
PrefixReads old answer = IfKnown old.known (λ xs. (encoding : List ℕ) (v : Item) (steps : ℕ) →
    Encodes encoding v steps → CostFits steps old.budget → IsProperPrefix xs encoding →
    Answered (λ _. ⊥) IsEof answer)

-- The strings of the item join chunks of their kind.
-- An end of the input leaves nothing, and comes only on a proper prefix of an item.
abbrev pub EofReads : {V E : Type 0} → View → View → Result V (DecodeError E) → Type 0
EofReads old new answer = IfKnown old.known (λ xs. Rejected (λ e. IsEof e →
    (new.known ≡ Some []) × ((t : Tree) × Loose t × Joins t × IsProperPrefix xs (bytes t))) answer)

-- skipping takes the bytes that reading a value takes
abbrev pub SkipsReads : {E : Type 0} → View → View → Result Value (DecodeError E) → Type 0
SkipsReads old new answer = IfKnown old.known (λ xs. IfOk answer (λ v.
    (t : Tree) × (rest : List ℕ) × (new.known ≡ Some rest) × Skips xs old.budget t rest))

-- It costs no more than any other, and under the same budget is read as the value.
-- The canonical encoding encodes the value itself.
pub record IsCanonical (budget : Budget) (v : Item) : Type 0 where
  pub same : with_bignums v ≡ v
  pub encodes : Encodes (canonical_encoding v) v (canonical_cost v)
  pub least : (encoding : List ℕ) (steps : ℕ) → Encodes encoding v steps → canonical_cost v ≤ steps
  pub reads : (more : List ℕ) → DecodesTo (canonical_encoding v ++ more) budget v more

-- what is read has a canonical encoding, which costs no more and is read as it
abbrev pub CanonicalReads : {E : Type 0} → View → Result Value (DecodeError E) → Type 0
CanonicalReads old answer =
    IfKnown old.known (λ xs. IfOk answer (λ v. IsCanonical old.budget (view v)))

-- ---- `IgnoredAny::decode`

-- an item that fits and begins the bytes is accepted, and its bytes are taken
abbrev pub AllSkips : {V E : Type 0} → View → View → Result V (DecodeError E) → Type 0
AllSkips old new answer = IfKnown old.known (λ xs. (t : Tree) (rest : List ℕ) →
    Skips xs old.budget t rest → Answered (λ _. new.known ≡ Some rest) (λ _. ⊥) answer)

-- ---- a call over a whole slice

-- A want of memory says nothing.
-- A whole input is accepted with no rest, so many bytes follow what is accepted, or it is rejected.
abbrev pub AnswersWhole : {V E : Type 0} → (V → List ℕ → Type 0) →
    (InputError → List ℕ → Type 0) → Result V (WholeError (DecodeError E)) → Type 0
AnswersWhole Accepts Rejects (Ok v) = Accepts v []
AnswersWhole {V} Accepts Rejects (Err (Trailing left)) =
    (v : V) × (rest : List ℕ) × Accepts v rest × (length rest ≡ left) × (1 ≤ left)
AnswersWhole Accepts Rejects (Err (Decode e)) =
    IfSome (input_error_of e) (λ z. (rest : List ℕ) × Rejects z rest)
