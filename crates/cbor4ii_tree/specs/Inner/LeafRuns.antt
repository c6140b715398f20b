-- Runs of values that hold no other, where they stand whole in shown bytes.
use Rattle.std.specs.Prelude.{◌≡◌, ℕ, ◌+◌, ◌<◌, ◌≤◌, ◌⊎◌, List, [], ◌∷◌, ◌++◌, length, take, drop}
use Rattle.std.specs.Prelude.{◌-◌, Option, Some, None, OnSome, IfSome, IfNone, IsTrue, Bool, true}
use Rattle.std.specs.Prelude.{Result, Ok, Err}
use Rattle.cbor4ii_rw.specs.{View.View, declared.error.DecodeError.DecodeError}
use Rattle.cbor4ii_items.specs.{Head.IsBytes, InputError.is_out_of_memory}
use Rattle.cbor4ii_tree.specs.{Calls.Asking.Asks, Inner.Asking.InParts, Basis.Cost.{Budget, cost}}
use Rattle.cbor4ii_tree.specs.{Basis.Cost.step_in, Inner.Does.{Accepting, Does, DoesUnder, Gives}}
use Rattle.cbor4ii_tree.specs.{Inner.Does.error_left, Basis.Item.AreItems, Inner.Leaf.CanTake}
use Rattle.cbor4ii_tree.specs.{Inner.Leaf.{SeesNext, ShowsNext, WantsContent}, Basis.Meaning.values}
use Rattle.cbor4ii_tree.specs.Basis.InputError.{value_name, eof, Small}
use Rattle.cbor4ii_tree.specs.Calls.Rejections.{Rejection, Is, Each}
use Rattle.cbor4ii_tree.specs.{Calls.CanonicalShape.CanonicalShape, Basis.Tree.{Tree, Trees, Plain}}
use Rattle.cbor4ii_tree.specs.{Basis.Tree.{count, bytes_all}, Inner.Valuing.ReadsItems}
use Rattle.cbor4ii_tree.specs.{Inner.Valuing.{RejectsItems, flat_values}, Basis.View.items_view}
use Rattle.cbor4ii_tree.specs.{declared.value.Value.Value, declared.leaf.Next.Next}
use Rattle.cbor4ii_tree.specs.{declared.run.Pairs.Pairs, declared.run.RunSeen.RunSeen}
use Rattle.cbor4ii_tree.specs.declared.run.RunSeen.TheVariants as run

-- the values of pairs, and after them the key whose value is to come, if there is one
abbrev pub flat_pairs : List (Value × Value) → Option Value → List Value
flat_pairs ms None = flat_values ms
flat_pairs ms (Some key) = flat_values ms ++ key ∷ []

-- the values of the pairs of a map that is read
abbrev pub pair_values : Pairs → List Value
pair_values pairs = flat_pairs pairs.pairs.items pairs.key

-- a value takes one step; where canonical holds its encoding is the canonical one
abbrev pub IsValueLeaf : Type 0 → Tree → Type 0
IsValueLeaf canonical t = Plain t × (cost t ≡ 1) × (canonical → CanonicalShape t)

-- the encodings of these values have so many bytes at the beginning
pub record StandFirst (canonical : Type 0) (vs : List Value) (size : ℕ) (shown : List ℕ) : Type 0
  where
    pub within : size ≤ length shown
    pub fresh : IsBytes (take size shown)
    pub trees : Trees
    pub many : count trees ≡ length vs
    pub each : Each (IsValueLeaf canonical) trees
    pub means : values trees ≡ items_view vs
    pub ranged : AreItems (items_view vs)
    pub is : take size shown ≡ bytes_all trees

-- these values stand first, and were put after the others
pub record PutsAfter (canonical : Type 0) (size : ℕ) (shown : List ℕ) (before after : List Value)
    : Type 0 where
  pub new : List Value
  pub is : after ≡ before ++ new
  pub stand : StandFirst canonical new size shown

-- so many values may be there at most, and these were put after the others
pub record PutsWhole (canonical : Type 0) (full size : ℕ) (shown : List ℕ)
    (before after : List Value)
    : Type 0 where
  pub some : 1 ≤ size
  pub few : length after ≤ full
  pub puts : PutsAfter canonical size shown before after

-- values were put after the others, and the next one, which is missing too, is left undecided
pub record PutsBefore (canonical : Type 0) (full size : ℕ) (n : Next) (shown : List ℕ)
    (before after : List Value) : Type 0 where
  pub some : 1 ≤ size
  pub lacks : length after < full
  pub puts : PutsAfter canonical size shown before after
  pub next : SeesNext canonical n (drop size shown)

-- It was refused for the content of a string, whose head is taken, or where the last of the values
-- was put, which is taken too.
-- After some values memory was refused.
pub record RefusedMemory (canonical : Type 0) (size : ℕ) (shown : List ℕ) : Type 0 where
  pub values : List Value
  pub taken : ℕ
  pub stand : StandFirst canonical values taken shown
  pub at : ((1 ≤ length values) × (size ≡ taken))
      ⊎ ((head : ℕ) × (size ≡ taken + head) × WantsContent head (drop taken shown))

-- Else the first is left undecided, or memory was refused, or there is no byte.
-- The values in so many bytes at the beginning were put after the others, up to so many in all.
abbrev pub PutsRun : Type 0 → ℕ → List Value → List Value → RunSeen → List ℕ → Type 0
PutsRun canonical full before after (run.Whole size) shown =
    PutsWhole canonical full size shown before after
PutsRun canonical full before after (run.Before n size) shown =
    PutsBefore canonical full size n shown before after
PutsRun canonical full before after (run.Begins n) shown = (after ≡ before) × SeesNext canonical n
    shown
PutsRun canonical full before after (run.NoMemory size) shown = RefusedMemory canonical size shown
PutsRun canonical full before after run.End shown = length shown ≡ 0

-- ---- taken

-- values were taken, and put after the others
abbrev pub PutsItems : Bool → List Value → List Value → Budget → List ℕ → Unit {0} → List ℕ
    → Type 0
PutsItems canonical before after budget xs _ ys =
    (vs : List Value) × (after ≡ before ++ vs) × ReadsItems canonical (length vs) budget xs vs ys

-- `PutsItems` under a step that leaves this budget
abbrev pub PutsItemsUnder : Bool → List Value → List Value → Budget → List ℕ → Unit {0} → List ℕ
    → Type 0
PutsItemsUnder canonical before after inner xs u ys = (budget : Budget) → step_in budget
    ≡ Some inner
    → PutsItems canonical before after budget xs u ys

-- the items stay in range
abbrev pub KeepsItems : List Value → List Value → Type 0
KeepsItems before after = AreItems (items_view before) → AreItems (items_view after)

-- values are put after others, up to so many in all
abbrev pub GivesItems : {E : Type 0} → Bool
    → (List Value → List Value → Budget → Accepting (Unit {0})) → (ℕ → Budget → Rejection) → ℕ
    → List Value → List Value → View → View → Result (Unit {0}) (DecodeError E) → Type 0
GivesItems canonical puts rejects full before after =
    Gives (Asks (InParts canonical 1)) (λ _. KeepsItems before after × (length after ≤ full))
    (DoesUnder (puts before after) (rejects (full - length before)))

-- no byte is left where a value is to begin
abbrev pub RejectsWhereNone : Rejection
RejectsWhereNone xs e rest = (xs ≡ []) × Is (eof value_name (Small 1)) [] e rest

-- after fewer than so many values one is rejected, where the step that leaves this budget was taken
abbrev pub RejectsItemsUnder : Bool → ℕ → Budget → Rejection
RejectsItemsUnder canonical room inner xs e rest =
    (budget : Budget) → step_in budget ≡ Some inner → RejectsItems canonical room budget xs e rest

-- what a run does
abbrev pub DoesRun : {E : Type 0} → Bool → List Value → List Value → View → View
    → Result (Unit {0}) (DecodeError E) → Type 0
DoesRun canonical before after old =
    Does (PutsItemsUnder canonical before after old.budget) RejectsWhereNone old

-- what a run does, and the value after it, up to so many in all
abbrev pub DoesTurn : {E : Type 0} → Bool → ℕ → List Value → List Value → View → View
    → Result (Unit {0}) (DecodeError E) → Type 0
DoesTurn canonical full before after =
    DoesUnder (PutsItemsUnder canonical before after)
    (RejectsItemsUnder canonical (full - length before))

-- values were taken by a run, and after them a look has shown a value
pub record RunsBefore (E : Type 0) (canonical : Bool) (n : Next) (before after : List Value)
    (old new : View) : Type 0 where
  pub mid : View
  pub puts : DoesRun {E = E} canonical before after old mid (Ok tt)
  pub shows : ShowsNext (canonical ≡ true) n mid new

-- values were taken by a run, or it was rejected
abbrev pub TakesValuesBy : {E : Type 0} → Bool → List Value → List Value → View → View
    → Option (Option Next) → Option (DecodeError E) → Type 0
TakesValuesBy {E = E} canonical before after old new (Some (Some n)) failure =
    RunsBefore E canonical n before after old new
TakesValuesBy {E = E} canonical before after old new (Some None) failure =
    DoesRun {E = E} canonical before after old new (Ok tt)
TakesValuesBy canonical before after old new None failure =
    DoesRun canonical before after old new (Err (error_left failure))

-- `before` and `after` are the values before and after it. It answers what a look has shown of the
-- next value, where that is left undecided.
-- What a run takes of values, of which so many are to be there at most.
pub record TakesRun {E : Type 0} (canonical : Bool) (full : ℕ) (before after : List Value)
    (old new : View) (result : Option (Option Next)) (failure : Option (DecodeError E)) : Type 0
  where
    pub puts : TakesValuesBy canonical before after old new result failure
    pub memory : IfNone result (IsTrue (is_out_of_memory (error_left failure))
        → Asks (InParts canonical 1) old new)
    pub items : OnSome result (KeepsItems before after)
    pub few : OnSome result (length after ≤ full)
    pub lacks : IfSome result (λ found. OnSome found (length after < full))
    pub progress : IfSome result (λ found. IfNone found (new.bound + 1 ≤ old.bound))
    pub bound : OnSome result (new.bound ≤ old.bound)
    pub can : IfSome result (λ found. IfSome found (λ n. CanTake n new))
