-- Encodings of a value, and what it is for an input to begin with an item.
use Rattle.std.specs.Prelude.{◌≡◌, ◌≢◌, ℕ, List, [], ◌++◌, ◌⊎◌}
use Rattle.cbor4ii_tree.specs.Basis.{Tree.{Tree, bytes, Loose, Plain}, Item.Item, Meaning.value}
use Rattle.cbor4ii_tree.specs.Basis.{Cost.{cost, skip_cost, Budget}, InputError.InputError}
use Rattle.cbor4ii_items.specs.Budget.{CostFits}

-- The text is an encoding of the value, which takes so many steps to read.
pub record Encodes (encoding : List ℕ) (v : Item) (steps : ℕ) : Type 0 where
  pub of_tree : Tree
  pub plain : Plain of_tree
  pub bytes_are : bytes of_tree ≡ encoding
  pub value_is : value of_tree ≡ v
  pub cost_is : cost of_tree ≡ steps

-- An encoding of the value whose cost fits begins the input, and the rest follows it.
pub record DecodesTo (input : List ℕ) (budget : Budget) (v : Item) (rest : List ℕ) : Type 0 where
  pub encoding : List ℕ
  pub steps : ℕ
  pub encodes : Encodes encoding v steps
  pub fits : CostFits steps budget
  pub begins : input ≡ encoding ++ rest

-- The bytes of a loose tree whose skip cost fits begin the input, and the rest follows them.
pub record Skips (input : List ℕ) (budget : Budget) (t : Tree) (rest : List ℕ) : Type 0 where
  pub loose : Loose t
  pub fits : CostFits (skip_cost t) budget
  pub begins : input ≡ bytes t ++ rest

-- Something is missing at the end.
abbrev pub IsProperPrefix : List ℕ → List ℕ → Type 0
IsProperPrefix prefix whole = (back : List ℕ) × (back ≢ []) × (whole ≡ prefix ++ back)

-- Something is accepted, with a rest, or an error is found, with a rest.
abbrev pub SomeAnswer : {A : Type 0} → (A → List ℕ → Type 0) → (InputError → List ℕ → Type 0)
    → Type 0
SomeAnswer {A} Accepts Rejects =
    ((a : A) × (rest : List ℕ) × Accepts a rest) ⊎
    ((e : InputError) × (rest : List ℕ) × Rejects e rest)

-- At most one of the two holds, and of one thing, with one rest.
pub record AtMostOne {A : Type 0} (Accepts : A → List ℕ → Type 0)
    (Rejects : InputError → List ℕ → Type 0) : Type 0 where
  pub not_both : (a : A) (x : List ℕ) (e : InputError) (y : List ℕ) → Accepts a x → Rejects e y → ⊥
  pub one_accepted : (a b : A) (x y : List ℕ) → Accepts a x → Accepts b y → (a ≡ b) × (x ≡ y)
  pub one_rejected : (e f : InputError) (x y : List ℕ) → Rejects e x → Rejects f y → (e ≡ f) ×
      (x ≡ y)
