-- What the parts of reading a value accept, and where they fail. Where canonical is set, a value is
-- read from its canonical encoding alone.
use Rattle.std.specs.Prelude.{◌≡◌, ℕ, ◌*◌, ◌/◌, List, [], ◌∷◌, ◌++◌, length, Option, Some, None}
use Rattle.std.specs.{Prelude.{Bool, true, false, ◌⊎◌}, declared.vec.Vec.Vec}
use Rattle.std.specs.declared.alloc.Global.{Global}
use Rattle.cbor4ii_items.specs.{Head.break, Initial.{Simple, simple_byte}}
use Rattle.cbor4ii_tree.specs.{Calls.Asking.{HeadAt, LengthAt}, Inner.Does.Accepting}
use Rattle.cbor4ii_tree.specs.{declared.value.Value.Value, Basis.Item.{IsItem, tag}}
use Rattle.cbor4ii_tree.specs.Basis.Tree.{Tree, Trees, count, bytes, bytes_all}
use Rattle.cbor4ii_tree.specs.{Basis.Meaning.{value, values, simple_item}, Basis.Cost.Budget}
use Rattle.cbor4ii_tree.specs.{Basis.Cost.step_in, Calls.Rejections.{Rejection, Each}}
use Rattle.cbor4ii_tree.specs.Calls.Rejections.{RejectsInCount, IndefiniteItems, AfterKey}
use Rattle.cbor4ii_tree.specs.{Calls.Rejections.IndefinitePairs, Calls.ReadingRejects.Readable}
use Rattle.cbor4ii_tree.specs.Calls.ReadingRejects.{ReadingRejectsFrom, ReadingRejects}
use Rattle.cbor4ii_tree.specs.Calls.CanonicalRejects.{FitsCanonically, CanonicalRejectsFrom}
use Rattle.cbor4ii_tree.specs.{Calls.CanonicalRejects.CanonicalRejects, Basis.View.view}
use Rattle.cbor4ii_tree.specs.Basis.View.{items_view}

-- what is read is a value of the program
abbrev pub InRange : Value → Type 0
InRange v = IsItem (view v)

-- an encoding that is read whole
abbrev pub Whole : Bool → Budget → Tree → Type 0
Whole false = Readable
Whole true = FitsCanonically

abbrev pub ReadsOneValue : Bool → Budget → List ℕ → Value → List ℕ → Type 0
ReadsOneValue canonical budget xs v ys =
    (t : Tree) × Whole canonical budget t × (value t ≡ view v) × (xs ≡ bytes t ++ ys)

abbrev pub RejectsOneValue : Bool → Budget → Rejection
RejectsOneValue false budget xs = ReadingRejects xs budget
RejectsOneValue true budget xs = CanonicalRejects xs budget

-- a value whose step was taken
abbrev pub ReadsUnder : Bool → Budget → List ℕ → Value → List ℕ → Type 0
ReadsUnder canonical inner xs v ys =
    (budget : Budget) → step_in budget ≡ Some inner → ReadsOneValue canonical budget xs v ys

abbrev pub RejectsUnder : Bool → Budget → Rejection
RejectsUnder false inner xs e rest =
    ReadingRejectsFrom (λ left part. ReadingRejects part left) inner xs e rest
RejectsUnder true inner xs e rest =
    CanonicalRejectsFrom (λ left part. CanonicalRejects part left) inner xs e rest

-- an array or a map whose two steps were taken
abbrev pub ReadsTwoStepsIn : Bool → Budget → List ℕ → Value → List ℕ → Type 0
ReadsTwoStepsIn canonical deep xs v ys =
    (inner : Budget) → step_in inner ≡ Some deep → ReadsUnder canonical inner xs v ys

-- so many values are read, of which each encoding is a tree of which W holds
abbrev pub ReadsEach : (Tree → Type 0) → ℕ → List ℕ → List Value → List ℕ → Type 0
ReadsEach W n xs vs ys = (ts : Trees) × (count ts ≡ n) × Each W ts ×
    (values ts ≡ items_view vs) × (xs ≡ bytes_all ts ++ ys)

-- so many values are read
abbrev pub ReadsItems : Bool → ℕ → Budget → List ℕ → List Value → List ℕ → Type 0
ReadsItems canonical n budget xs vs ys = ReadsEach (Whole canonical budget) n xs vs ys

abbrev pub RejectsItems : Bool → ℕ → Budget → Rejection
RejectsItems canonical n budget = RejectsInCount (Whole canonical budget)
    (RejectsOneValue canonical budget) n

-- values up to a break, which is taken
abbrev pub ReadsIndefiniteItems : Bool → Budget → List ℕ → List Value → List ℕ → Type 0
ReadsIndefiniteItems canonical budget xs vs ys =
    ReadsItems canonical (length vs) budget xs vs (break ∷ ys)

abbrev pub RejectsIndefiniteItems : Bool → Budget → Rejection
RejectsIndefiniteItems canonical budget =
    IndefiniteItems (Whole canonical budget) (RejectsOneValue canonical budget)

-- a key, and its value after it
abbrev pub ReadsValuePair : Bool → Budget → List ℕ → Value × Value → List ℕ → Type 0
ReadsValuePair canonical budget xs m ys = ReadsItems canonical 2 budget xs (m.0 ∷ m.1 ∷ []) ys

abbrev pub RejectsValuePair : Bool → Budget → Rejection
RejectsValuePair canonical budget xs e rest =
    RejectsOneValue canonical budget xs e rest
    ⊎ AfterKey (Whole canonical budget) (RejectsOneValue canonical budget) xs e rest

-- the values of pairs, each key before its value
abbrev pub flat_values : List (Value × Value) → List Value
flat_values [] = []
flat_values (m ∷ ms) = m.0 ∷ (m.1 ∷ flat_values ms)

-- so many pairs: twice as many keys and values
abbrev pub ReadsValuePairs : Bool → ℕ → Budget → List ℕ → List (Value × Value) → List ℕ → Type 0
ReadsValuePairs canonical n budget xs ms ys = ReadsItems canonical (2 * n) budget xs
    (flat_values ms) ys

abbrev pub RejectsValuePairs : Bool → ℕ → Budget → Rejection
RejectsValuePairs canonical n = RejectsItems canonical (2 * n)

abbrev pub ReadsPairsToBreak : Bool → Budget → List ℕ → List (Value × Value) → List ℕ → Type 0
ReadsPairsToBreak canonical budget xs ms ys =
    ReadsIndefiniteItems canonical budget xs (flat_values ms) ys

abbrev pub RejectsPairsToBreak : Bool → Budget → Rejection
RejectsPairsToBreak canonical budget =
    IndefinitePairs (Whole canonical budget) (RejectsOneValue canonical budget)

-- the head of a tag
abbrev pub TakesTag : Bool → Budget → Accepting ℕ
TakesTag canonical budget xs n ys = HeadAt canonical 6 n xs ys

-- the head that says how many parts are to follow, none where its length is indefinite
abbrev pub TakesLength : Bool → ℕ → Budget → Accepting (Option ℕ)
TakesLength canonical major budget xs o ys = LengthAt canonical major o xs ys

-- an array or a map fails as a value does whose first byte is of its major type
abbrev pub RejectsMajor : Bool → ℕ → Budget → Rejection
RejectsMajor canonical major inner xs e rest = (b : ℕ) (bs : List ℕ) → xs ≡ b ∷ bs → b / 32 ≡ major
    →
    (outer : Budget) → step_in outer ≡ Some inner → RejectsUnder canonical outer xs e rest

-- what is rejected after a first byte of this major type, before the step is taken
abbrev pub RejectsOf : Bool → ℕ → Budget → Rejection
RejectsOf canonical major budget xs e rest =
    (b : ℕ) (bs : List ℕ) → xs ≡ b ∷ bs → b / 32 ≡ major → RejectsUnder canonical budget xs e rest

-- a vector of what is read
abbrev pub ReadsVec : {T : Type 0} → (Budget → Accepting (List T)) →
    Budget → Accepting (Vec T Global)
ReadsVec reads budget xs v ys = reads budget xs v.items ys

-- a tagged value after the head of its tag
abbrev pub ReadsTagged : Bool → ℕ → Budget → Accepting Value
ReadsTagged canonical n budget xs w ys =
    (v : Value) × (view w ≡ tag n (view v)) × ReadsOneValue canonical budget xs v ys

-- no simple value's byte
abbrev pub IsNoSimple : ℕ → Type 0
IsNoSimple first = (s : Simple) → first ≡ simple_byte s → ⊥

-- what is rejected after this first byte
abbrev pub RejectsFirst : Bool → ℕ → Budget → Rejection
RejectsFirst canonical first budget xs e rest =
    (bs : List ℕ) → xs ≡ first ∷ bs → RejectsUnder canonical budget xs e rest

-- the value that a byte is by itself
abbrev pub SimpleOf : ℕ → Option Value → Type 0
SimpleOf first None = IsNoSimple first
SimpleOf first (Some v) = (s : Simple) × (first ≡ simple_byte s) × (simple_item s ≡ view v)
