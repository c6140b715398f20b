-- Where reading a value from its canonical encoding is rejected, by cases on the major type of its
-- first byte. Each head is to be the shortest (section 4.1), each length given, and null `f6`.
use Rattle.std.specs.Prelude.{◌≡◌, ℕ, zero, suc, ◌*◌, ◌/◌, ◌^◌, ◌<◌, List, [], ◌∷◌, ◌++◌, length}
use Rattle.std.specs.Prelude.{◌⊎◌}
use Rattle.cbor4ii_items.specs.{Head.{head, shortest_width}, InputError.not_canonical}
use Rattle.cbor4ii_items.specs.Shortest.{canonical_name, RejectsShortest, RejectsShortestString}
use Rattle.cbor4ii_items.specs.{Budget.CostFits, Initial.{unsigned, negative, byte_string}}
use Rattle.cbor4ii_items.specs.Initial.{text_string, simple_undefined, precision_bytes, Initial}
use Rattle.cbor4ii_items.specs.Initial.{starts_simple, starts_bits, other_simple, initial}
use Rattle.cbor4ii_tree.specs.{Basis.Tree.Tree, Basis.Cost.{Budget, step_in, cost}}
use Rattle.cbor4ii_tree.specs.Basis.InputError.{InputError, eof, unsupported, Small, sign_name}
use Rattle.cbor4ii_tree.specs.Basis.InputError.{kind_name, precision_name, array_name, map_name}
use Rattle.cbor4ii_tree.specs.{Basis.InputError.{tag_name, value_name}, Calls.Rejections.Rejection}
use Rattle.cbor4ii_tree.specs.Calls.Rejections.{Is, MissingAll, RejectsAtStep, RejectsInCount}
use Rattle.cbor4ii_tree.specs.{Calls.ReadingRejects.NoUtf8, Calls.CanonicalShape.CanonicalTree}

-- a canonical tree that fits
abbrev pub FitsCanonically : Budget → Tree → Type 0
FitsCanonically budget t = CanonicalTree t × CostFits (cost t) budget

-- the shortest head of this argument, and what follows it
abbrev pub ShortestAt : ℕ → ℕ → List ℕ → List ℕ → Type 0
ShortestAt major n xs ys = (n < 2 ^ 64) × (xs ≡ head major n (shortest_width n) ++ ys)

-- a shortest head, and after it the bytes are rejected as its argument says
pub record AfterShortest (major : ℕ) (then : ℕ → Rejection) (xs : List ℕ) (e : InputError)
    (rest : List ℕ) : Type 0 where
  pub argument : ℕ
  pub after : List ℕ
  pub is : ShortestAt major argument xs after
  pub rejected : then argument after e rest

-- a head that is rejected, or a shortest one and what is rejected after it
abbrev pub AtShortest : List ℕ → ℕ → Budget → (ℕ → Rejection) → Rejection
AtShortest name major budget then xs e rest =
    RejectsShortest name major xs budget e rest ⊎ AfterShortest major then xs e rest

-- a text whose head is rejected, that is cut, or that is no UTF-8, and is consumed
abbrev pub CanonicalTextRejects : Budget → Rejection
CanonicalTextRejects budget xs e rest =
    RejectsShortestString (kind_name text_string) 3 xs budget e rest
    ⊎ AfterShortest 3 (NoUtf8 text_string) xs e rest

-- an array, or a map, whose step was taken, is rejected
abbrev pub CanonicalArrayRejects : (Budget → Rejection) → Budget → Rejection
CanonicalArrayRejects rejects budget xs e rest =
    AtShortest array_name 4 budget (RejectsInCount (FitsCanonically budget) (rejects budget))
    xs e rest

abbrev pub CanonicalMapRejects : (Budget → Rejection) → Budget → Rejection
CanonicalMapRejects rejects budget xs e rest =
    AtShortest map_name 5 budget (λ n. RejectsInCount (FitsCanonically budget) (rejects budget)
    (2 * n)) xs e
    rest

-- Undefined is not canonical, and the other simple values never fail.
-- An item of major type 7 is rejected after its first byte b, which says so (section 3.3).
abbrev pub CanonicalOtherRejects : Initial → ℕ → Rejection
CanonicalOtherRejects (starts_simple simple_undefined) b bs e rest =
    Is (not_canonical canonical_name) bs e rest
CanonicalOtherRejects (starts_bits p) b bs e rest =
    MissingAll (precision_name p) (precision_bytes p) bs e rest
CanonicalOtherRejects other_simple b bs e rest = Is (unsupported value_name b) (b ∷ bs) e rest
CanonicalOtherRejects _ b bs e rest = ⊥

-- An array or a map asks for one more step before its head.
-- An item of this major type, whose first byte is b, is rejected.
abbrev pub CanonicalRejectsBy : (Budget → Rejection) → Budget → ℕ → ℕ → Rejection
CanonicalRejectsBy rejects budget zero b bs e rest =
    RejectsShortest (sign_name unsigned) 0 (b ∷ bs) budget e rest
CanonicalRejectsBy rejects budget (suc zero) b bs e rest =
    RejectsShortest (sign_name negative) 1 (b ∷ bs) budget e rest
CanonicalRejectsBy rejects budget (suc (suc zero)) b bs e rest =
    RejectsShortestString (kind_name byte_string) 2 (b ∷ bs) budget e rest
CanonicalRejectsBy rejects budget (suc (suc (suc zero))) b bs e rest =
    CanonicalTextRejects budget (b ∷ bs) e rest
CanonicalRejectsBy rejects budget (suc (suc (suc (suc zero)))) b bs e rest =
    RejectsAtStep array_name (step_in budget) (b ∷ bs)
    (λ inner. CanonicalArrayRejects rejects inner (b ∷ bs)) e rest
CanonicalRejectsBy rejects budget (suc (suc (suc (suc (suc zero))))) b bs e rest =
    RejectsAtStep map_name (step_in budget) (b ∷ bs)
    (λ inner. CanonicalMapRejects rejects inner (b ∷ bs)) e rest
CanonicalRejectsBy rejects budget (suc (suc (suc (suc (suc (suc zero)))))) b bs e rest =
    AtShortest tag_name 6 budget (λ n. rejects budget) (b ∷ bs) e rest
CanonicalRejectsBy rejects budget _ b bs e rest = CanonicalOtherRejects (initial b) b bs e rest

abbrev pub CanonicalRejectsFrom : (Budget → Rejection) → Budget → Rejection
CanonicalRejectsFrom rejects budget [] e rest = Is (eof value_name (Small 1)) [] e rest
CanonicalRejectsFrom rejects budget (b ∷ bs) e rest =
    CanonicalRejectsBy rejects budget (b / 32) b bs e rest

-- The number bounds how deep items nest, as it does in `ReadingRejects`.
-- Reading a value from its canonical encoding fails within a bound on how deep items nest.
abbrev pub CanonicalRejectsWithin : ℕ → Budget → Rejection
CanonicalRejectsWithin zero budget bs e rest = ⊥
CanonicalRejectsWithin (suc n) budget bs e rest =
    RejectsAtStep value_name (step_in budget) bs
    (λ inner. CanonicalRejectsFrom (CanonicalRejectsWithin n) inner bs) e rest

-- The value is read from its canonical encoding at the beginning of the input.
-- Reading from a canonical encoding fails under the budget with the error, and leaves the rest.
abbrev pub CanonicalRejects : List ℕ → Budget → InputError → List ℕ → Type 0
CanonicalRejects input budget e rest =
    CanonicalRejectsWithin (suc (length input)) budget input e rest

-- `CanonicalRejects` without the bound on nesting, as the rejections of the parts say
abbrev pub CanonicalRejectsByParts : List ℕ → Budget → InputError → List ℕ → Type 0
CanonicalRejectsByParts input budget e rest =
    RejectsAtStep value_name (step_in budget) input
    (λ inner. CanonicalRejectsFrom (λ left part. CanonicalRejects part left) inner input) e rest
