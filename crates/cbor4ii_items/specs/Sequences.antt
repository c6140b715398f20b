-- What arrays and maps are encoded as, and how they are rejected (RFC 8949 sections 3.1, 3.2.1 and
-- 3.2.2). Both are sequences of elements: an element of an array is an item, and an element of a
-- map is a key and its value.
use Rattle.std.specs.Prelude.{◌≡◌, ◌≢◌, ℕ, ◌+◌, ◌-◌, ◌<◌, ◌⊎◌, List, [], ◌∷◌, length, take, ◌&&◌}
use Rattle.std.specs.Prelude.{◌||◌, drop, max, Bool, true, false, Option, None, Some, IsTrue, codes}
use Rattle.std.specs.declared.alloc.Global.{Global}
use Rattle.std.specs.declared.vec.Vec.{Vec}
use Rattle.cbor4ii_rw.specs.declared.error.Len.TheVariants.{Small, Indefinite}
use Rattle.cbor4ii_items.specs.Decoding.{Reads, RejectsAt, Format, format_by}
use Rattle.cbor4ii_items.specs.Budget.{CostFits}
use Rattle.cbor4ii_items.specs.Head.{break, indefinite_head}
use Rattle.cbor4ii_items.specs.Heads.{ReadsHead, RejectsHead}
use Rattle.cbor4ii_items.specs.declared.types.Map.{Map}
use Rattle.cbor4ii_items.specs.InputError.{InputError, eof, require_length, depth_overflow}

-- ---- what is read

-- elements, one after another: n bytes in all, at the greatest cost of one
abbrev pub ReadsElements : {P : Type 0} → Reads P → Reads (List P)
ReadsElements reads xs [] n c = (n ≡ 0) × (c ≡ 0)
ReadsElements reads xs (p ∷ ps) n c =
    (k d m e : ℕ) × reads xs p k d × ReadsElements reads (drop k xs) ps m e × (n ≡ k + m)
    × (c ≡ max d e)

-- so many elements
abbrev pub ReadsCount : {P : Type 0} → Reads P → ℕ → Reads (List P)
ReadsCount reads count xs ps n c = (length ps ≡ count) × ReadsElements reads xs ps n c

-- an element that begins with no break
abbrev pub Unbroken : {P : Type 0} → Reads P → Reads P
Unbroken reads xs p n c = (take 1 xs ≡ break ∷ [] → ⊥) × reads xs p n c

-- The break is the first in an element's place. There is no element where one may read nothing.
-- Elements up to a break, and the break.
pub record ReadsUpToBreak {P : Type 0} (reads : Reads P) (never_empty : Bool) (xs : List ℕ)
    (ps : List P) (n c : ℕ) : Type 0 where
  pub allowed : IsTrue never_empty ⊎ (ps ≡ [])
  pub between : ℕ
  pub parts : ReadsElements (Unbroken reads) xs ps between c
  pub ends : take 1 (drop between xs) ≡ break ∷ []
  pub size : n ≡ between + 1

-- a head of this major type that counts the elements, and the elements
pub record ReadsDefiniteElements {P : Type 0} (major : ℕ) (reads : Reads P) (xs : List ℕ)
    (ps : List P)
    (n c : ℕ) : Type 0 where
  pub before : ℕ
  pub head : ReadsHead major 8 xs (length ps) before
  pub between : ℕ
  pub parts : ReadsElements reads (drop before xs) ps between c
  pub size : n ≡ before + between

-- the first byte of an indefinite length, and elements up to a break
pub record ReadsIndefiniteElements {P : Type 0} (major : ℕ) (reads : Reads P) (never_empty : Bool)
    (xs : List ℕ) (ps : List P) (n c : ℕ) : Type 0 where
  pub begins : take 1 xs ≡ indefinite_head major ∷ []
  pub between : ℕ
  pub parts : ReadsUpToBreak reads never_empty (drop 1 xs) ps between c
  pub size : n ≡ 1 + between

-- elements that are counted, or that a break ends
abbrev pub ReadsInside : {P : Type 0} → ℕ → Reads P → Bool → Reads (List P)
ReadsInside major reads never_empty xs ps n c =
    ReadsDefiniteElements major reads xs ps n c ⊎ ReadsIndefiniteElements major reads never_empty
    xs ps n c

-- under one step, elements that are counted, or that a break ends
abbrev pub ReadsSequence : {P : Type 0} → ℕ → Reads P → Bool → Reads (List P)
ReadsSequence major reads never_empty xs ps n c =
    (d : ℕ) × ReadsInside major reads never_empty xs ps n d × (c ≡ 1 + d)

-- the two lists have as many elements, and these are the same one by one
abbrev pub SameElements : {P : Type 0} → (P → P → Type 0) → List P → List P → Type 0
SameElements same [] [] = Unit {0}
SameElements same [] (q ∷ qs) = ⊥
SameElements same (p ∷ ps) [] = ⊥
SameElements same (p ∷ ps) (q ∷ qs) = same p q × SameElements same ps qs

-- ---- how it is rejected

-- so many elements should come: fewer are whole, and the next one is rejected
pub record RejectsCount {P : Type 0} (reads : Reads P) (rejects : RejectsAt) (count : ℕ)
    (xs : List ℕ)
    (budget : Option ℕ) (err : InputError) (rest : List ℕ) : Type 0 where
  pub whole : List P
  pub fewer : length whole < count
  pub between : ℕ
  pub cost : ℕ
  pub parts : ReadsElements reads xs whole between cost
  pub fits : CostFits cost budget
  pub stop : rejects (drop between xs) budget err rest

-- what is rejected where an element or a break should come
pub data RejectsPlace (name : List ℕ) (rejects : RejectsAt) (never_empty : Bool) (xs : List ℕ)
    (budget : Option ℕ) (err : InputError) (rest : List ℕ) : Type 0 where
  no_byte : xs ≡ [] → err ≡ eof (codes "break") (Small 1) → rest ≡ []
      → RejectsPlace name rejects never_empty xs budget err rest
  may_read_nothing : xs ≢ [] → (take 1 xs ≡ break ∷ [] → ⊥) → never_empty ≡ false
      → err ≡ require_length name Indefinite → rest ≡ xs
      → RejectsPlace name rejects never_empty xs budget err rest
  part_rejected : xs ≢ [] → (take 1 xs ≡ break ∷ [] → ⊥) → IsTrue never_empty
      → rejects xs budget err rest → RejectsPlace name rejects never_empty xs budget err rest

-- some elements are whole, and then comes the error
pub record RejectsUpToBreak {P : Type 0} (name : List ℕ) (reads : Reads P) (rejects : RejectsAt)
    (never_empty : Bool) (xs : List ℕ) (budget : Option ℕ) (err : InputError)
    (rest : List ℕ) : Type 0 where
  pub whole : List P
  pub allowed : IsTrue never_empty ⊎ (whole ≡ [])
  pub between : ℕ
  pub cost : ℕ
  pub parts : ReadsElements (Unbroken reads) xs whole between cost
  pub fits : CostFits cost budget
  pub stop : RejectsPlace name rejects never_empty (drop between xs) budget err rest

-- the head is rejected, or the elements after it
pub data RejectsInside {P : Type 0} (name : List ℕ) (major : ℕ) (reads : Reads P)
    (rejects : RejectsAt)
    (never_empty : Bool) (xs : List ℕ) (budget : Option ℕ) (err : InputError)
    (rest : List ℕ) : Type 0 where
  length_rejected : (take 1 xs ≡ indefinite_head major ∷ [] → ⊥) → RejectsHead name major 8 xs
      err rest
      → RejectsInside name major reads rejects never_empty xs budget err rest
  definite_rejected : (count before : ℕ) → ReadsHead major 8 xs count before
      → RejectsCount reads rejects count (drop before xs) budget err rest
      → RejectsInside name major reads rejects never_empty xs budget err rest
  indefinite_rejected : take 1 xs ≡ indefinite_head major ∷ []
      → RejectsUpToBreak name reads rejects never_empty (drop 1 xs) budget err rest
      → RejectsInside name major reads rejects never_empty xs budget err rest

-- a budget after one step
abbrev pub after_step : Option ℕ → Option ℕ
after_step None = None
after_step (Some left) = Some (left - 1)

-- no step is left and nothing moves, or the sequence is rejected under what is left
pub data RejectsSequence {P : Type 0} (name : List ℕ) (major : ℕ) (reads : Reads P)
    (rejects : RejectsAt)
    (never_empty : Bool) (xs : List ℕ) (budget : Option ℕ) (err : InputError)
    (rest : List ℕ) : Type 0 where
  no_step : budget ≡ Some 0 → err ≡ depth_overflow name → rest ≡ xs
      → RejectsSequence name major reads rejects never_empty xs budget err rest
  under_step : budget ≢ Some 0
      → RejectsInside name major reads rejects never_empty xs (after_step budget) err rest
      → RejectsSequence name major reads rejects never_empty xs budget err rest

-- ---- values that hold elements

-- a type whose values hold elements, read and rejected as given
abbrev pub elements_format : {P W : Type 0} → (W → List P) → Format P → Reads (List P) → RejectsAt
    → RejectsAt → Bool → Format W
elements_format items s reads rejects begins never_empty = record {
  reads = λ xs v. reads xs (items v);
  same = λ v w. SameElements s.same (items v) (items w);
  rejects = rejects;
  begins = begins;
  never_empty = never_empty;
  owned = s.owned;
  takes_memory = true;
  closed = s.closed;
}

abbrev pub count_of : {P W : Type 0} → (W → List P) → Format P → ℕ → Format W
count_of items s count =
    elements_format items s (ReadsCount s.reads count) (RejectsCount s.reads s.rejects count)
    (RejectsCount s.reads s.begins count) false

abbrev pub indefinite_of : {P W : Type 0} → (W → List P) → List ℕ → Format P → Format W
indefinite_of items name s =
    elements_format items s (ReadsUpToBreak s.reads s.never_empty)
    (RejectsUpToBreak name s.reads s.rejects s.never_empty)
    (RejectsUpToBreak name s.reads s.begins s.never_empty) false

abbrev pub inside_of : {P W : Type 0} → (W → List P) → List ℕ → ℕ → Format P → Format W
inside_of items name major s =
    elements_format items s (ReadsInside major s.reads s.never_empty)
    (RejectsInside name major s.reads s.rejects s.never_empty)
    (RejectsInside name major s.reads s.begins s.never_empty) true

abbrev pub in_list : {P : Type 0} → List P → List P
in_list parts = parts

-- ---- the elements in a vector

abbrev pub in_vector : {P : Type 0} → Vec P Global → List P
in_vector v = v.items

abbrev pub count_format : {P : Type 0} → Format P → ℕ → Format (Vec P Global)
count_format = count_of in_vector

abbrev pub indefinite_format : {P : Type 0} → List ℕ → Format P → Format (Vec P Global)
indefinite_format = indefinite_of in_vector

abbrev pub inside_format : {P : Type 0} → List ℕ → ℕ → Format P → Format (Vec P Global)
inside_format = inside_of in_vector

abbrev pub sequence_format : {P : Type 0} → List ℕ → ℕ → Format P → Format (Vec P Global)
sequence_format name major s =
    elements_format in_vector s (ReadsSequence major s.reads s.never_empty)
    (RejectsSequence name major s.reads s.rejects s.never_empty)
    (RejectsSequence name major s.reads s.begins s.never_empty) true

-- an array of these items, as a vector
abbrev pub array_format : {V : Type 0} → Format V → Format (Vec V Global)
array_format = sequence_format (codes "array") 4

-- ---- maps

-- a key, and its value after it, at the greater cost of the two
pub record ReadsPair {K V : Type 0} (key_reads : Reads K) (value_reads : Reads V) (xs : List ℕ)
    (pair : K × V) (n c : ℕ) : Type 0 where
  pub key_size : ℕ
  pub key_cost : ℕ
  pub key : key_reads xs pair.0 key_size key_cost
  pub value_size : ℕ
  pub value_cost : ℕ
  pub value : value_reads (drop key_size xs) pair.1 value_size value_cost
  pub size : n ≡ key_size + value_size
  pub cost : c ≡ max key_cost value_cost

-- a key is whole, and its value is rejected
pub record RejectsAfterKey {K : Type 0} (key_reads : Reads K) (rejects : RejectsAt) (xs : List ℕ)
    (budget : Option ℕ) (err : InputError) (rest : List ℕ) : Type 0 where
  pub whole : K
  pub size : ℕ
  pub cost : ℕ
  pub key : key_reads xs whole size cost
  pub fits : CostFits cost budget
  pub stop : rejects (drop size xs) budget err rest

-- the key's error, or its value's
abbrev pub RejectsPair : {K : Type 0} → Reads K → RejectsAt → RejectsAt → RejectsAt
RejectsPair key_reads key_rejects value_rejects xs budget err rest =
    key_rejects xs budget err rest ⊎ RejectsAfterKey key_reads value_rejects xs budget err rest

abbrev pub SamePair : {K V : Type 0} → (K → K → Type 0) → (V → V → Type 0) → K × V → K × V → Type 0
SamePair same_key same_value p q = same_key p.0 q.0 × same_value p.1 q.1

abbrev pub pair_format : {K V : Type 0} → Format K → Format V → Format (K × V)
pair_format k v = record {
  reads = ReadsPair k.reads v.reads;
  same = SamePair k.same v.same;
  rejects = RejectsPair k.reads k.rejects v.rejects;
  begins = RejectsPair k.reads k.begins v.begins;
  never_empty = k.never_empty || v.never_empty;
  owned = k.owned && v.owned;
  takes_memory = k.takes_memory || v.takes_memory;
  closed = k.closed && v.closed;
}

-- a map of keys and values of these formats, as its pairs in their order
abbrev pub map_format : {K V : Type 0} → Format K → Format V
    → Format (Map (Vec (K × V) Global))
map_format k v =
    format_by (λ m. m.0) (sequence_format (codes "map") 5 (pair_format k v))
