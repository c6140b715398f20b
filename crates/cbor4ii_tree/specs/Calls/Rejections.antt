-- The parts of a rejection that skipping and reading a value share. A rejection is a relation
-- between an input, an error and the rest that it leaves, stated by heads and trees.
use Rattle.std.specs.Prelude.{◌≡◌, ◌≢◌, ℕ, ◌-◌, ◌<◌, List, [], ◌∷◌, ◌++◌, length, ◌⊎◌, Option, Some}
use Rattle.std.specs.Prelude.{None}
use Rattle.cbor4ii_items.specs.Head.{Width, byte_count, HeadFits, head, break}
use Rattle.cbor4ii_tree.specs.{Basis.Cost.Budget, Basis.InputError.{InputError, eof}}
use Rattle.cbor4ii_tree.specs.Basis.InputError.{depth_overflow, len_of, Small, break_name}
use Rattle.cbor4ii_tree.specs.Basis.Tree.{Tree, Trees, no_trees, tree, Pairs, no_pairs, pair, count}
use Rattle.cbor4ii_tree.specs.Basis.Tree.{bytes, bytes_all, bytes_pairs}

abbrev pub Rejection : Type 1
Rejection = List ℕ → InputError → List ℕ → Type 0

-- the error is this one, and these bytes are left
abbrev pub Is : InputError → List ℕ → InputError → List ℕ → Type 0
Is err left e rest = (e ≡ err) × (rest ≡ left)

-- Fewer than k bytes are there. How many are asked for goes by k, and by how many are there.
abbrev pub Lacks : (ℕ → ℕ → ℕ) → List ℕ → ℕ → Rejection
Lacks asks name k bs e rest =
    (length bs < k) × Is (eof name (len_of (asks k (length bs)))) [] e rest

-- fewer than k bytes are there, and as many as are missing are asked for
abbrev pub Missing : List ℕ → ℕ → Rejection
Missing = Lacks (λ k n. k - n)

-- fewer than k bytes are there, and all k are asked for
abbrev pub MissingAll : List ℕ → ℕ → Rejection
MissingAll = Lacks (λ k n. k)

-- The head's initial byte is b (section 3).
-- After a whole head of the major type the bytes are rejected as its argument says.
pub record AfterHead (major : ℕ) (w : Width) (b : ℕ) (then : ℕ → Rejection) (bs : List ℕ)
    (e : InputError) (rest : List ℕ) : Type 0 where
  pub argument : ℕ
  pub after : List ℕ
  pub fits : HeadFits w argument
  pub is : b ∷ bs ≡ head major argument w ++ after
  pub rejected : then argument after e rest

-- a head whose argument is cut, or a whole one and what is rejected after it
abbrev pub AtHead : List ℕ → ℕ → Width → ℕ → (ℕ → Rejection) → Rejection
AtHead name major w b then bs e rest =
    MissingAll name (byte_count w) bs e rest ⊎ AfterHead major w b then bs e rest

-- no step is left and nothing moves, or one is taken and the bytes are rejected under what is left
abbrev pub RejectsAtStep : List ℕ → Option Budget → List ℕ → (Budget → InputError → List ℕ → Type 0)
    → InputError → List ℕ → Type 0
RejectsAtStep name None here rejects e rest = Is (depth_overflow name) here e rest
RejectsAtStep name (Some inner) here rejects e rest = rejects inner e rest

-- each of these items is so
abbrev pub Each : (Tree → Type 0) → Trees → Type 0
Each Whole no_trees = Unit {0}
Each Whole (tree t ts) = Whole t × Each Whole ts

abbrev pub EachPair : (Tree → Type 0) → Pairs → Type 0
EachPair Whole no_pairs = Unit {0}
EachPair Whole (pair k v ps) = Whole k × Whole v × EachPair Whole ps

-- The items of a map are its keys and values in turn (section 3.1).
-- Whole items, fewer than n, and then one that is rejected.
pub record RejectsInCount (Whole : Tree → Type 0) (rejects : Rejection) (n : ℕ) (bs : List ℕ)
    (e : InputError) (rest : List ℕ) : Type 0 where
  pub prefix : Trees
  pub after : List ℕ
  pub few : count prefix < n
  pub whole : Each Whole prefix
  pub is : bs ≡ bytes_all prefix ++ after
  pub rejected : rejects after e rest

-- in place of an item or break: the end of the input, or no break and a rejected item (section 3.2)
abbrev pub NoBreak : Rejection → Rejection
NoBreak rejects [] e rest = Is (eof break_name (Small 1)) [] e rest
NoBreak rejects (b ∷ bs) e rest = (b ≢ break) × rejects (b ∷ bs) e rest

-- whole items, and then no break (section 3.2.2)
pub record IndefiniteItems (Whole : Tree → Type 0) (rejects : Rejection) (bs : List ℕ)
    (e : InputError)
    (rest : List ℕ) : Type 0 where
  pub prefix : Trees
  pub after : List ℕ
  pub whole : Each Whole prefix
  pub is : bs ≡ bytes_all prefix ++ after
  pub rejected : NoBreak rejects after e rest

-- No break is looked for between the two (section 3.2.2).
-- A whole key, and a value that is rejected.
pub record AfterKey (Whole : Tree → Type 0) (rejects : Rejection) (bs : List ℕ) (e : InputError)
    (rest : List ℕ) : Type 0 where
  pub key : Tree
  pub after : List ℕ
  pub whole : Whole key
  pub is : bs ≡ bytes key ++ after
  pub rejected : rejects after e rest

-- whole pairs, and then no break and a key that is rejected, or a value that is
pub record IndefinitePairs (Whole : Tree → Type 0) (rejects : Rejection) (bs : List ℕ)
    (e : InputError)
    (rest : List ℕ) : Type 0 where
  pub prefix : Pairs
  pub after : List ℕ
  pub whole : EachPair Whole prefix
  pub is : bs ≡ bytes_pairs prefix ++ after
  pub rejected : NoBreak rejects after e rest ⊎ AfterKey Whole rejects after e rest
