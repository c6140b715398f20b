-- What shown bytes begin with, where items are skipped.
use Rattle.std.specs.Prelude.{◌≡◌, ◌≢◌, ◌+◌, ◌-◌, ◌^◌, ◌%◌, ◌==◌, ℕ, ◌≤◌, ◌<◌, nat_lt}
use Rattle.std.specs.Prelude.{if◌then◌else◌, List, [], ◌∷◌, ◌++◌, length, take, drop, get_or, Some}
use Rattle.std.specs.Prelude.{Bool, true, false, ◌⊎◌}
use Rattle.cbor4ii_items.specs.{Head.{IsBytes, break}, Initial.initial}
use Rattle.cbor4ii_tree.specs.{Basis.Cost.{Budget, step_in}, Basis.InputError.{InputError, eof}}
use Rattle.cbor4ii_tree.specs.{Basis.InputError.{Small, break_name}, Inner.Runs.BeginsRun}
use Rattle.cbor4ii_tree.specs.{Inner.Runs.SkipsRun, Calls.Rejections.{Rejection, Is, NoBreak}}
use Rattle.cbor4ii_tree.specs.{Calls.RawParts.BeginsWithBreak, Inner.Skipping.{start_of, HeadLeads}}
use Rattle.cbor4ii_tree.specs.Inner.Skipping.{RejectsSkippingAfter, SkipsItems, RejectsSkippingOne}
use Rattle.cbor4ii_tree.specs.{declared.skip.initial.After.After, declared.skip.items.Went.Went}
use Rattle.cbor4ii_tree.specs.declared.skip.items.Went.TheVariants.{Past, Into}
use Rattle.cbor4ii_tree.specs.{declared.skip.initial.Start.Start, declared.ahead.Among.Among}
use Rattle.cbor4ii_tree.specs.declared.ahead.Among.TheVariants.{Items, Indefinite}
use Rattle.cbor4ii_tree.specs.{declared.ahead.Ahead.Ahead, declared.ahead.Ahead.TheVariants.Run}
use Rattle.cbor4ii_tree.specs.declared.ahead.Ahead.TheVariants.{Head, Break, Unseen}
use Rattle.cbor4ii_tree.specs.declared.skip.initial.After.TheVariants as after
use Rattle.cbor4ii_tree.specs.declared.skip.initial.Start.TheVariants as start

-- ---- among what an item stands

-- the next item of a map of indefinite length: after a key comes its value, and no break
abbrev pub in_map : Bool → Among
in_map true = Items (2 ^ 64 - 1)
in_map false = Indefinite

-- so many items may be taken at once: no more than are left
abbrev pub Allows : Among → ℕ → Type 0
Allows (Items most) n = n ≤ most
Allows Indefinite n = Unit {0}

-- one item at least may be taken
abbrev pub Awaits : Among → Type 0
Awaits (Items most) = 1 ≤ most
Awaits Indefinite = Unit {0}

-- so many items were skipped, of those that are left
abbrev pub CountsAmong : Among → ℕ → Type 0
CountsAmong (Items most) n = (1 ≤ n) × (n ≤ most)
CountsAmong Indefinite n = Unit {0}

-- a break may come in an item's place
abbrev pub IsIndefinite : Among → Type 0
IsIndefinite (Items most) = ⊥
IsIndefinite Indefinite = Unit {0}

-- ---- what is shown

abbrev pub leaf_by : Start → ℕ → ℕ
leaf_by (start.Bytes k) low = k + 1
leaf_by start.Content low = if nat_lt low 24 then low + 1 else 0
leaf_by start.Items low = if low == 0 then 1 else 0
leaf_by start.Pairs low = if low == 0 then 1 else 0
leaf_by _ low = 0

-- Where the byte does not say it, or that the item holds no other, this is 0.
-- How many bytes an item that holds no other takes, by its first byte.
unfoldable pub leaf_bytes : ℕ → ℕ
leaf_bytes first = leaf_by (start_of (initial first)) (first % 32)

-- each of these bytes is an item by itself
abbrev pub AllShort : List ℕ → Type 0
AllShort bs = (i : ℕ) → i < length bs → leaf_bytes (get_or bs i 0) ≡ 1

-- another byte than a break stands here
abbrev pub NotBreak : List ℕ → Type 0
NotBreak xs = (xs ≢ []) × ((bs : List ℕ) → xs ≡ break ∷ bs → ⊥)

-- a head of so many bytes begins what is shown, with what is left of its item after it
pub record BeginsHead (size : ℕ) (trailing : After) (shown : List ℕ) : Type 0 where
  pub some : 1 ≤ size
  pub within : size ≤ length shown
  pub bytes : IsBytes (take size shown)
  pub leads : (inner : Budget) (after : List ℕ)
      → HeadLeads inner (shown ++ after) trailing (drop size shown ++ after)
  pub item : (inner : Budget) (after : List ℕ) (e : InputError) (rest : List ℕ)
      → RejectsSkippingAfter trailing inner (drop size shown ++ after) e rest
      → NotBreak (shown ++ after)

-- a run that may be taken at once
pub record SeesRun (among : Among) (n size : ℕ) (shown : List ℕ) : Type 0 where
  pub some : 1 ≤ n
  pub allowed : Allows among n
  pub begins : BeginsRun n size shown
  pub bytes : IsBytes (take size shown)

abbrev pub Sees : Among → Ahead → List ℕ → Type 0
Sees among (Run n size) shown = SeesRun among n size shown
Sees among (Head size trailing) shown = BeginsHead size trailing shown
Sees among Break shown = IsIndefinite among × BeginsWithBreak shown
Sees among Unseen shown = Unit {0}

-- ---- what is taken of it

-- a head, and what is left of its item after it
pub record TakesHead (inner : Budget) (xs : List ℕ) (trailing : After) (ys : List ℕ) : Type 0 where
  pub leads : HeadLeads inner xs trailing ys
  pub item : (e : InputError) (rest : List ℕ) → RejectsSkippingAfter trailing inner ys e rest
      → NotBreak xs

-- what a look has shown is taken, under the budget that is left for the item
abbrev pub TakesAhead : Among → Budget → List ℕ → Ahead → List ℕ → Type 0
TakesAhead among inner xs (Run n size) ys = SkipsRun n xs ys
TakesAhead among inner xs (Head size trailing) ys = TakesHead inner xs trailing ys
TakesAhead among inner xs Break ys = xs ≡ break ∷ ys
TakesAhead among inner xs Unseen ys = ys ≡ xs

-- how far taking what a look has shown leads, by the bound before and after
abbrev pub Passes : Among → ℕ → ℕ → Ahead → Type 0
Passes among old new (Run n size) = (1 ≤ n) × Allows among n × (new + 1 ≤ old)
Passes among old new (Head size trailing) = new + 1 ≤ old
Passes among old new Break = IsIndefinite among
Passes among old new Unseen = new ≤ old

-- ---- what is skipped

-- a break and no item is skipped, or so many items are
abbrev pub SkipsSome : Among → Budget → List ℕ → ℕ → List ℕ → Type 0
SkipsSome among budget xs n ys =
    (IsIndefinite among × (n ≡ 0) × (xs ≡ break ∷ ys)) ⊎ ((1 ≤ n) × SkipsItems n budget xs ys)

abbrev pub RejectsSome : Among → Budget → Rejection
RejectsSome (Items most) budget = RejectsSkippingOne budget
RejectsSome Indefinite budget = NoBreak (RejectsSkippingOne budget)

-- `SkipsSome` under a step that leaves this budget
abbrev pub SkipsSomeUnder : Among → Budget → List ℕ → ℕ → List ℕ → Type 0
SkipsSomeUnder among inner xs n ys =
    (budget : Budget) → step_in budget ≡ Some inner → SkipsSome among budget xs n ys

abbrev pub RejectsSomeUnder : Among → Budget → Rejection
RejectsSomeUnder among inner xs e rest =
    (budget : Budget) → step_in budget ≡ Some inner → RejectsSome among budget xs e rest

-- some items were skipped, or the head of one was taken that holds so many
abbrev pub GoesUnder : Among → Budget → List ℕ → Went → List ℕ → Type 0
GoesUnder among inner xs (Past n) ys = SkipsSomeUnder among inner xs n ys
GoesUnder among inner xs (Into n) ys = TakesHead inner xs (after.Items n) ys

-- so many items were skipped; where it was no break, the bound falls
abbrev pub CountsSome : Among → ℕ → ℕ → ℕ → Type 0
CountsSome among old new n = CountsAmong among n × (1 ≤ n → new + 1 ≤ old)

-- no item was skipped, where a break was taken
abbrev pub CountsNone : Among → ℕ → ℕ → ℕ → Type 0
CountsNone among old new n = CountsAmong among n × (n ≡ 0)

abbrev pub CountsWent : Among → ℕ → ℕ → Went → Type 0
CountsWent among old new (Past n) = CountsSome among old new n
CountsWent among old new (Into n) = new + 1 ≤ old

-- Where nothing was taken and a break may come, another byte stands.
-- A break was taken where one may come, or nothing was taken.
abbrev pub EndsOrNot : Among → List ℕ → Bool → List ℕ → Type 0
EndsOrNot among xs true ys = IsIndefinite among × (xs ≡ break ∷ ys)
EndsOrNot among xs false ys = (ys ≡ xs) × (IsIndefinite among → NotBreak ys)

abbrev pub RejectsAtEnd : Among → Rejection
RejectsAtEnd among xs e rest =
    IsIndefinite among × (xs ≡ []) × Is (eof break_name (Small 1)) [] e rest

abbrev pub NeverRejects : Rejection
NeverRejects xs e rest = ⊥
