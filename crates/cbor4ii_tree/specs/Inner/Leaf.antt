-- Values that hold no other, where they stand whole in shown bytes.
use Rattle.std.specs.Prelude.{◌≡◌, ◌≢◌, ℕ, suc, ◌+◌, ◌≤◌, ◌/◌, ◌%◌, ◌⊎◌, List, ◌∷◌, length, take}
use Rattle.std.specs.Prelude.{Option, Some, None, Result, Ok, Err, IfSome, Bool, true}
use Rattle.cbor4ii_rw.specs.{View.View, declared.error.DecodeError.DecodeError}
use Rattle.cbor4ii_items.specs.Head.{ArgumentAfter, HeadFits, IsBytes, Width, byte_count, head}
use Rattle.cbor4ii_items.specs.{Head.shortest_width, Initial.{simple_byte, simple_undefined}}
use Rattle.cbor4ii_tree.specs.{Calls.Asking.{Asking, Asks, InValue}, Basis.Cost.{Budget, cost}}
use Rattle.cbor4ii_tree.specs.Inner.Does.{Accepting, DoesUnder, Gives, error_left}
use Rattle.cbor4ii_tree.specs.{Basis.Item.IsItem, Basis.Meaning.value, Inner.BytesAhead.Offers}
use Rattle.cbor4ii_tree.specs.{Calls.Rejections.Rejection, Calls.CanonicalShape.CanonicalShape}
use Rattle.cbor4ii_tree.specs.{Basis.Tree.{Tree, bytes, Plain}, Inner.Valuing.{InRange, ReadsUnder}}
use Rattle.cbor4ii_tree.specs.{Inner.Valuing.RejectsUnder, Basis.View.view}
use Rattle.cbor4ii_tree.specs.{declared.value.Value.Value, declared.leaf.ValueSeen.ValueSeen}
use Rattle.cbor4ii_tree.specs.declared.leaf.ValueSeen.TheVariants.{Whole, NoMemory, End, Begins}
use Rattle.cbor4ii_tree.specs.{declared.leaf.Next.Next, declared.leaf.TakenOrNext.TakenOrNext}
use Rattle.cbor4ii_tree.specs.declared.leaf.TakenOrNext.TheVariants.{Taken}
use Rattle.cbor4ii_tree.specs.declared.leaf.TakenOrNext.TheVariants as looked

-- The head is not undefined, and of major types 0 to 6 it is the shortest.
-- A head with this first byte and an argument in so many bytes may begin a canonical encoding.
pub record ShortestHead (first number size : ℕ) : Type 0 where
  pub defined : first ≢ simple_byte simple_undefined
  pub least : first / 32 ≢ 7 → size ≡ byte_count (shortest_width number)

-- The value takes one step; where canonical holds, the encoding is the canonical one.
-- The encoding of a value has so many bytes at the beginning.
pub record StandsAhead (canonical : Type 0) (v : Value) (size : ℕ) (shown : List ℕ) : Type 0 where
  pub some : 1 ≤ size
  pub within : size ≤ length shown
  pub fresh : IsBytes (take size shown)
  pub item : Tree
  pub plain : Plain item
  pub shape : canonical → CanonicalShape item
  pub step : cost item ≡ 1
  pub means : value item ≡ view v
  pub ranged : IsItem (view v)
  pub is : take size shown ≡ bytes item

-- A string stands whole at the beginning whose head, of major type 2 or 3, has so many bytes.
pub record WantsContent (size : ℕ) (shown : List ℕ) : Type 0 where
  pub first : ℕ
  pub trailing : List ℕ
  pub begins : shown ≡ first ∷ trailing
  pub major : (first / 32 ≡ 2) ⊎ (first / 32 ≡ 3)
  pub number : ℕ
  pub width : ℕ
  pub head : size ≡ suc width
  pub argument : ArgumentAfter (first % 32) trailing number width
  pub whole : width + number ≤ length trailing
  pub fresh : IsBytes (take size shown)

-- The head is of an array, a map or a tag; where canonical holds, it is the shortest.
-- A whole head of this major type with this argument stands in so many bytes at the beginning.
pub record HeadStands (canonical : Type 0) (major n size : ℕ) (shown : List ℕ) : Type 0 where
  pub nests : (4 ≤ major) × (major ≤ 6)
  pub within : size ≤ length shown
  pub some : 1 ≤ size
  pub fresh : IsBytes (take size shown)
  pub width : Width
  pub fits : HeadFits width n
  pub least : canonical → width ≡ shortest_width n
  pub is : take size shown ≡ head major n width

-- the value that the shown bytes begin with, and that is left undecided
pub record SeesNext (canonical : Type 0) (n : Next) (shown : List ℕ) : Type 0 where
  pub trailing : List ℕ
  pub begins : shown ≡ n.first ∷ trailing
  pub head : IfSome n.head (λ h. HeadStands canonical (n.first / 32) h.argument h.size shown)

-- what the shown bytes begin with
abbrev pub SeesLeaf : Type 0 → ValueSeen → List ℕ → Type 0
SeesLeaf canonical (Whole v size) shown = StandsAhead canonical v size shown
SeesLeaf canonical (NoMemory size) shown = WantsContent size shown
SeesLeaf canonical End shown = length shown ≡ 0
SeesLeaf canonical (Begins n) shown = SeesNext canonical n shown

-- a look has shown this first byte
abbrev pub ShowsFirst : ℕ → View → View → Type 0
ShowsFirst first = Offers 1 (λ shown. (trailing : List ℕ) × (shown ≡ first ∷ trailing))

-- a look has shown the value that comes next
abbrev pub ShowsNext : Type 0 → Next → View → View → Type 0
ShowsNext canonical n = Offers 1 (SeesNext canonical n)

-- what a look has shown may be taken
pub record CanTake (n : Next) (view : View) : Type 0 where
  pub first : 1 ≤ view.advanceable
  pub head : IfSome n.head (λ h. (1 ≤ h.size) × (h.size ≤ view.advanceable))

-- `DoesUnder` of a call together with the look before it, which has shown this byte
abbrev pub DoesAfterFirst : {V E : Type 0} → ℕ → (Budget → Accepting V) → (Budget → Rejection)
    → View → View → Result V (DecodeError E) → Type 0
DoesAfterFirst first accepts rejects old new answer =
    (before : View) → ShowsFirst first before old → DoesUnder accepts rejects before new answer

-- `DoesUnder` of a call together with the look before it, which has shown the value that comes next
abbrev pub DoesAfterNext : {V E : Type 0} → Bool → Next → (Budget → Accepting V)
    → (Budget → Rejection) → View → View → Result V (DecodeError E) → Type 0
DoesAfterNext canonical n accepts rejects old new answer = (before : View)
    → ShowsNext (canonical ≡ true) n before old → DoesUnder accepts rejects before new answer

-- `Asks` of a call together with the look before it
abbrev pub AsksAfterNext : Bool → Next → (List ℕ → List ℕ → Type 0) → Asking
AsksAfterNext canonical n at old new =
    (before : View) → ShowsNext (canonical ≡ true) n before old → Asks at before new

-- what a call gives that reads a value, by itself, and together with the look before it
abbrev pub GivesValue : {E : Type 0} → Bool → (Budget → Accepting Value) → (Budget → Rejection)
    → View → View → Result Value (DecodeError E) → Type 0
GivesValue canonical accepts rejects =
    Gives (Asks (InValue canonical)) InRange (DoesUnder accepts rejects)

abbrev pub GivesNext : {E : Type 0} → Bool → Next → (Budget → Accepting Value)
    → (Budget → Rejection) → View → View → Result Value (DecodeError E) → Type 0
GivesNext canonical n accepts rejects =
    Gives (AsksAfterNext canonical n (InValue canonical)) InRange
    (DoesAfterNext canonical n accepts rejects)

-- a value was taken, or none and a look has shown it; or there is an error
abbrev pub TakesLeaf : {E : Type 0} → Bool → View → View → Option TakenOrNext
    → Option (DecodeError E)
    → Type 0
TakesLeaf canonical old new (Some (looked.Begins n)) failure = ShowsNext (canonical ≡ true) n old
    new
TakesLeaf {E = E} canonical old new (Some (Taken v)) failure =
    GivesValue {E = E} canonical (ReadsUnder canonical) (RejectsUnder canonical) old new (Ok v)
TakesLeaf canonical old new None failure =
    GivesValue canonical (ReadsUnder canonical) (RejectsUnder canonical) old new
    (Err (error_left failure))
