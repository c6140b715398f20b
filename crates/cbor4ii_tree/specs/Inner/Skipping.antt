-- What the parts of skipping accept, and where they fail.
use Rattle.std.specs.Prelude.{◌≡◌, ℕ, ◌*◌, ◌^◌, nat_lt, if◌then◌else◌, List, ◌∷◌, ◌++◌, Option}
use Rattle.std.specs.Prelude.{Some, None, false}
use Rattle.cbor4ii_rw.specs.declared.error.DecodeError.{DecodeError}
use Rattle.cbor4ii_items.specs.{Head.{byte_count, break}, Initial.{precision_bytes, Info, wide}}
use Rattle.cbor4ii_items.specs.Initial.{indefinite_ended, reserved, Initial, starts_int, bad_int}
use Rattle.cbor4ii_items.specs.Initial.{starts_string, starts_chunks, bad_string, starts_array}
use Rattle.cbor4ii_items.specs.Initial.{starts_indefinite_array, bad_array, starts_map}
use Rattle.cbor4ii_items.specs.Initial.{starts_indefinite_map, bad_map, starts_tag, bad_tag}
use Rattle.cbor4ii_items.specs.Initial.{starts_simple, starts_bits, other_simple}
use Rattle.cbor4ii_items.specs.InputError.{input_error_of, is_read, is_depth_overflow}
use Rattle.cbor4ii_items.specs.InputError.{is_out_of_memory}
use Rattle.cbor4ii_tree.specs.Basis.Tree.{Tree, Trees, Pairs, count, bytes_all, bytes_pairs}
use Rattle.cbor4ii_tree.specs.{Basis.Cost.{Budget, step_in}, Inner.HeadParts.DropsBytes}
use Rattle.cbor4ii_tree.specs.{Basis.InputError.InputError}
use Rattle.cbor4ii_tree.specs.Basis.InputError.{mismatch, unsupported, ignored_any, tag_name}
use Rattle.cbor4ii_tree.specs.{Basis.Encodings.Skips}
use Rattle.cbor4ii_tree.specs.{Calls.Rejections.{Rejection, Missing, Each, EachPair}}
use Rattle.cbor4ii_tree.specs.Calls.Rejections.{RejectsInCount, IndefiniteItems, IndefinitePairs}
use Rattle.cbor4ii_tree.specs.Calls.SkippingRejects.{Skippable, SkippingRejects}
use Rattle.cbor4ii_tree.specs.declared.skip.initial.After.{After, TheVariants.{Nothing, Bytes}}
use Rattle.cbor4ii_tree.specs.declared.skip.initial.After.TheVariants.{Items, Twice, Indefinite}
use Rattle.cbor4ii_tree.specs.declared.skip.initial.After.TheVariants.{PairsToBreak}
use Rattle.cbor4ii_tree.specs.declared.skip.initial.{Start.Start, Additional.Additional}
use Rattle.cbor4ii_tree.specs.declared.skip.initial.Start.TheVariants as start
use Rattle.cbor4ii_tree.specs.declared.skip.initial.Additional.TheVariants as additional

-- ---- the first byte

abbrev pub additional_of : Info → Additional
additional_of (wide w) = additional.Wide (byte_count w)
additional_of indefinite_ended = additional.Indefinite
additional_of reserved = additional.Reserved

abbrev pub start_of : Initial → Start
start_of (starts_int s w) = start.Bytes (byte_count w)
start_of (bad_int s) = start.Stays
start_of (starts_string k w) = start.Content
start_of (starts_chunks k) = start.Indefinite
start_of (bad_string k) = start.Taken
start_of (starts_array w) = start.Items
start_of starts_indefinite_array = start.Indefinite
start_of bad_array = start.Taken
start_of (starts_map w) = start.Pairs
start_of starts_indefinite_map = start.PairsToBreak
start_of bad_map = start.Taken
start_of (starts_tag w) = start.Tag
start_of bad_tag = start.NoTag
start_of (starts_simple s) = start.Bytes 0
start_of (starts_bits p) = start.Bytes (precision_bytes p)
start_of other_simple = start.Unsupported

-- the first byte is taken together with an item that begins so
abbrev pub TakesFirst : Start → Type 0
TakesFirst start.Stays = ⊥
TakesFirst start.Unsupported = ⊥
TakesFirst _ = Unit {0}

-- the error of a byte with which no item begins
abbrev pub rejection_of : Start → ℕ → Option InputError
rejection_of start.Stays b = Some (mismatch ignored_any b)
rejection_of start.Taken b = Some (mismatch ignored_any b)
rejection_of start.NoTag b = Some (mismatch tag_name b)
rejection_of start.Unsupported b = Some (unsupported ignored_any b)
rejection_of _ b = None

-- an error that says this of the bytes, or none
abbrev pub SaysError : {E : Type 0} → Option InputError → Option (DecodeError E) → Type 0
SaysError None answer = answer ≡ None
SaysError (Some z) None = ⊥
SaysError (Some z) (Some e) =
    (input_error_of e ≡ Some z) × (is_read e ≡ false) × (is_depth_overflow e ≡ false)
    × (is_out_of_memory e ≡ false)

-- what a head is read as
abbrev pub head_name : Start → List ℕ
head_name start.Tag = tag_name
head_name _ = ignored_any

-- what is left of a map of so many pairs: twice as many items
abbrev pub items_of_pairs : ℕ → After
items_of_pairs n = if nat_lt n (2 ^ 63) then Items (2 * n) else Twice n

-- what is left of an item after its head, by its argument
abbrev pub trailing_of : Start → ℕ → After
trailing_of start.Content n = Bytes n
trailing_of start.Items n = Items n
trailing_of start.Pairs n = items_of_pairs n
trailing_of start.Tag n = Items 1
trailing_of start.Indefinite n = Indefinite
trailing_of start.PairsToBreak n = PairsToBreak
trailing_of _ n = Nothing

-- ---- items

abbrev pub SkipsOne : Budget → List ℕ → List ℕ → Type 0
SkipsOne budget xs ys = (t : Tree) × Skips xs budget t ys

abbrev pub RejectsSkippingOne : Budget → Rejection
RejectsSkippingOne budget xs = SkippingRejects xs budget

-- so many items are skipped
abbrev pub SkipsItems : ℕ → Budget → List ℕ → List ℕ → Type 0
SkipsItems n budget xs ys =
    (ts : Trees) × (count ts ≡ n) × Each (Skippable budget) ts × (xs ≡ bytes_all ts ++ ys)

abbrev pub RejectsSkippingItems : ℕ → Budget → Rejection
RejectsSkippingItems n budget = RejectsInCount (Skippable budget) (RejectsSkippingOne budget) n

-- items up to a break, which is taken
abbrev pub SkipsIndefinite : Budget → List ℕ → List ℕ → Type 0
SkipsIndefinite budget xs ys =
    (ts : Trees) × Each (Skippable budget) ts × (xs ≡ bytes_all ts ++ (break ∷ ys))

abbrev pub RejectsSkippingIndefinite : Budget → Rejection
RejectsSkippingIndefinite budget = IndefiniteItems (Skippable budget) (RejectsSkippingOne budget)

abbrev pub SkipsPairs : Budget → List ℕ → List ℕ → Type 0
SkipsPairs budget xs ys =
    (ps : Pairs) × EachPair (Skippable budget) ps × (xs ≡ bytes_pairs ps ++ (break ∷ ys))

abbrev pub RejectsSkippingPairs : Budget → Rejection
RejectsSkippingPairs budget = IndefinitePairs (Skippable budget) (RejectsSkippingOne budget)

-- ---- after a head

-- what is still to be skipped of an item under the budget
abbrev pub SkipsAfter : After → Budget → List ℕ → List ℕ → Type 0
SkipsAfter Nothing budget xs ys = ys ≡ xs
SkipsAfter (Bytes n) budget xs ys = DropsBytes n xs ys
SkipsAfter (Items n) budget xs ys = SkipsItems n budget xs ys
SkipsAfter (Twice n) budget xs ys = SkipsItems (2 * n) budget xs ys
SkipsAfter Indefinite budget xs ys = SkipsIndefinite budget xs ys
SkipsAfter PairsToBreak budget xs ys = SkipsPairs budget xs ys

abbrev pub RejectsSkippingAfter : After → Budget → Rejection
RejectsSkippingAfter Nothing budget xs e rest = ⊥
RejectsSkippingAfter (Bytes n) budget xs e rest = Missing ignored_any n xs e rest
RejectsSkippingAfter (Items n) budget xs e rest = RejectsSkippingItems n budget xs e rest
RejectsSkippingAfter (Twice n) budget xs e rest = RejectsSkippingItems (2 * n) budget xs e rest
RejectsSkippingAfter Indefinite budget xs e rest = RejectsSkippingIndefinite budget xs e rest
RejectsSkippingAfter PairsToBreak budget xs e rest = RejectsSkippingPairs budget xs e rest

-- an item under a step that leaves this budget
abbrev pub SkipsUnder : Budget → List ℕ → List ℕ → Type 0
SkipsUnder inner xs ys = (budget : Budget) → step_in budget ≡ Some inner → SkipsOne budget xs ys

abbrev pub RejectsSkippingUnder : Budget → Rejection
RejectsSkippingUnder inner xs e rest =
    (budget : Budget) → step_in budget ≡ Some inner → RejectsSkippingOne budget xs e rest

-- a head was taken, and what is left of the item goes on after it
pub record HeadLeads (inner : Budget) (xs : List ℕ) (trailing : After) (ys : List ℕ) : Type 0 where
  pub skips : (rest : List ℕ) → SkipsAfter trailing inner ys rest → SkipsUnder inner xs rest
  pub rejects : (e : InputError) (rest : List ℕ) → RejectsSkippingAfter trailing inner ys e rest
      → RejectsSkippingUnder inner xs e rest
