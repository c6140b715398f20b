-- One part after another: what is read, how it is rejected, and the laws of both.
use Rattle.std.proofs.Common.{◌≡◌, ℕ, ◌+◌, ◌≤◌, ◌⊎◌, List, ◌++◌, length, take, drop, Option, sym}
use Rattle.std.proofs.Common.{ap, ◌∙◌, subst, arith, max, rules}
use Rattle.std.proofs.lemmas.List.{length-drop}
use Rattle.cbor4ii_items.specs.Decoding.{Reads, RejectsAt}
use Rattle.cbor4ii_items.specs.Budget.{CostFits}
use Rattle.cbor4ii_items.specs.InputError.{InputError}
use Rattle.cbor4ii_items.specs.Laws.Prefixes.{two_prefixes, after_prefix}
use Rattle.cbor4ii_items.specs.Laws.Sequences.{same_max}

-- a part, and after it another, which may depend on it: their bytes, at the greater of their costs
pub record ReadsThen {A B : Type 0} (first : Reads A) (second : A → Reads B)
    (xs : List ℕ) (v : A × B) (n c : ℕ) : Type 0 where
  pub before : ℕ
  pub first_cost : ℕ
  pub head : first xs v.0 before first_cost
  pub trailing : ℕ
  pub second_cost : ℕ
  pub tail : second v.0 (drop before xs) v.1 trailing second_cost
  pub size : n ≡ before + trailing
  pub cost : c ≡ max first_cost second_cost

-- the first part is whole, and the second is rejected
pub record RejectsAfter {A : Type 0} (first : Reads A) (rejects : A → RejectsAt)
    (xs : List ℕ) (budget : Option ℕ) (err : InputError) (rest : List ℕ) : Type 0 where
  pub whole : A
  pub size : ℕ
  pub cost : ℕ
  pub head : first xs whole size cost
  pub fits : CostFits cost budget
  pub stop : rejects whole (drop size xs) budget err rest

-- the first part's error, or the second's
abbrev pub RejectsThen : {A : Type 0} → Reads A → RejectsAt → (A → RejectsAt) → RejectsAt
RejectsThen first first_rejects second_rejects xs budget err rest =
    first_rejects xs budget err rest ⊎ RejectsAfter first second_rejects xs budget err rest

-- ---- what a type promises of its encodings

-- the same bytes begin with one encoding at most, and its values mean the same
abbrev pub InOneWay : {V : Type 0} → Reads V → (V → V → Type 0) → Type 0
InOneWay {V} reads same = (xs : List ℕ) (v w : V) (n m c d : ℕ) → reads xs v n c → reads xs w m d
    → (n ≡ m) × (c ≡ d) × same v w

-- an encoding stands within the bytes
abbrev pub Within : {V : Type 0} → Reads V → Type 0
Within {V} reads = (xs : List ℕ) (v : V) (n c : ℕ) → reads xs v n c → n ≤ length xs

-- no encoding is empty
abbrev pub Positive : {V : Type 0} → Reads V → Type 0
Positive {V} reads = (xs : List ℕ) (v : V) (n c : ℕ) → reads xs v n c → 1 ≤ n

-- what follows a format says nothing of it
abbrev pub Alone : {V : Type 0} → Reads V → Type 0
Alone {V} reads = (xs ys : List ℕ) (v : V) (n c : ℕ) → reads xs v n c
    → reads (take n xs ++ ys) v n c

-- what is read after a value is read after another that means the same
abbrev pub Carries : {A B : Type 0} → (A → A → Type 0) → (A → Reads B) → Type 0
Carries {A} {B} same second = (a b : A) (xs : List ℕ) (v : B) (n c : ℕ) → same a b
    → second a xs v n c → second b xs v n c

-- ---- laws

module _ {A B : Type 0} (first : Reads A) (second : A → Reads B) where
  pub then_one : (same : A → A → Type 0) (alike : B → B → Type 0) → Carries same second
      → InOneWay first same → ((a : A) → InOneWay (second a) alike)
      → InOneWay (ReadsThen first second) (λ v w. same v.0 w.0 × alike v.1 w.1)
  then_one same alike carries one two xs v w n m c d p q =
      let h = one xs v.0 w.0 p.before q.before p.first_cost q.first_cost p.head q.head in
      let left = drop p.before xs in
      let there = carries v.0 w.0 left v.1 p.trailing p.second_cost h.2 p.tail in
      let tail = subst (λ k. second w.0 (drop k xs) w.1 q.trailing q.second_cost) (sym h.0)
      q.tail in
      let t = two w.0 left v.1 w.1 p.trailing q.trailing p.second_cost q.second_cost there tail in
      let cost = same_max c d p.first_cost q.first_cost p.second_cost q.second_cost p.cost q.cost in
      (omega (arith, p.size, q.size, h.0, t.0), cost h.1 t.1, (h.2, t.2))

  pub then_within : Within first → ((a : A) → Within (second a)) → Within (ReadsThen first second)
  then_within one two xs v n c p = search (rules, length-drop)

  pub then_positive : Positive first → Positive (ReadsThen first second)
  then_positive one xs v n c p =
      omega (arith, p.size, one xs v.0 p.before p.first_cost p.head)

  pub then_alone : Within first → Alone first → ((a : A) → Alone (second a))
      → Alone (ReadsThen first second)
  then_alone within one two xs ys v n c p =
      let left = drop p.before xs in
      let more = take p.trailing left ++ ys in
      let whole : take n xs ++ ys ≡ take p.before xs ++ more =
      two_prefixes p.before p.trailing n xs ys p.size in
      let inside = within xs v.0 p.before p.first_cost p.head in
      let rest : drop p.before (take n xs ++ ys) ≡ more =
      ap (drop p.before) whole ∙ after_prefix p.before xs more inside in
      let head = one xs more v.0 p.before p.first_cost p.head in
      let tail = two v.0 left ys v.1 p.trailing p.second_cost p.tail in
      record {
        before = p.before;
        first_cost = p.first_cost;
        head = subst (λ zs. first zs v.0 p.before p.first_cost) (sym whole) head;
        trailing = p.trailing;
        second_cost = p.second_cost;
        tail = subst (λ zs. second v.0 zs v.1 p.trailing p.second_cost) (sym rest) tail;
        size = p.size;
        cost = p.cost;
      }
