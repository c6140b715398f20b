-- The bound on how deep items nest takes nothing away: a rejection goes by those of the parts,
-- however deep these go.
use Rattle.std.proofs.Common.{ℕ, zero, suc, ◌*◌, ◌<◌, ◌≤◌, inl, inr, ◌↔◌, ◌/◌, List, [], ◌∷◌}
use Rattle.std.proofs.Common.{length, arith, length-append, rules}
use Rattle.cbor4ii_items.specs.{Initial.{Initial, starts_tag, initial}}
use Rattle.cbor4ii_tree.specs.Calls.CanonicalRejects.{FitsCanonically, AtShortest}
use Rattle.cbor4ii_tree.specs.Calls.CanonicalRejects.{CanonicalRejectsBy, CanonicalRejectsFrom}
use Rattle.cbor4ii_tree.specs.Calls.CanonicalRejects.{CanonicalRejectsWithin, CanonicalRejects}
use Rattle.cbor4ii_tree.specs.{Calls.CanonicalRejects.CanonicalRejectsByParts, Basis.Cost.Budget}
use Rattle.cbor4ii_tree.specs.{Basis.Cost.step_in, Basis.InputError.{InputError, tag_name}}
use Rattle.cbor4ii_tree.specs.Basis.InputError.{array_name, map_name, value_name}
use Rattle.cbor4ii_tree.specs.{Calls.ItemRejects.RejectsBy, Calls.ReadingRejects.ReadingRejects}
use Rattle.cbor4ii_tree.specs.Calls.ReadingRejects.{ReadingRejectsByParts, reading_profile}
use Rattle.cbor4ii_tree.specs.Calls.Rejections.{Rejection, RejectsInCount}
use Rattle.cbor4ii_tree.specs.Calls.SkippingRejects.{SkippingRejects, SkippingRejectsByParts}
use Rattle.cbor4ii_tree.specs.{Calls.SkippingRejects.skipping_profile, Basis.Tree.{Tree, bytes_all}}
use Rattle.cbor4ii_tree.proofs.{parts.Rejecting.in_count, parts.Widen.trailing}
use Rattle.cbor4ii_tree.proofs.profile.Widen.{by_parts, step_same, reading_widens, skipping_widens}

pub reading_by_parts : (input : List ℕ) (budget : Budget) (e : InputError) (rest : List ℕ)
    → ReadingRejects input budget e rest ↔ ReadingRejectsByParts input budget e rest
reading_by_parts = by_parts reading_profile reading_widens

-- ---- skipping, whose parts stand under one budget

module _ (r : Budget → Rejection) (c : Budget) (e : InputError) (rest : List ℕ) where
  to_one : (i : Initial) (b : ℕ) (bs : List ℕ) → RejectsBy skipping_profile r c i b bs e rest
      → RejectsBy skipping_profile (λ left. r c) c i b bs e rest
  to_one (starts_tag w) b bs x = x
  to_one _ b bs x = x

  from_one : (i : Initial) (b : ℕ) (bs : List ℕ) → RejectsBy skipping_profile (λ left. r c) c i b bs
      e rest
      → RejectsBy skipping_profile r c i b bs e rest
  from_one (starts_tag w) b bs x = x
  from_one _ b bs x = x

free : Budget → Rejection
free b part = SkippingRejects part b

pub skipping_by_parts : (input : List ℕ) (budget : Budget) (e : InputError) (rest : List ℕ)
    → SkippingRejects input budget e rest ↔ SkippingRejectsByParts input budget e rest
unfolding free
skipping_by_parts [] budget e rest = by_parts skipping_profile skipping_widens [] budget e rest
skipping_by_parts (b ∷ bs) budget e rest =
    let parts = by_parts skipping_profile skipping_widens (b ∷ bs) budget e rest in (
      (λ h. step_same _ (step_in budget) (b ∷ bs) _ _ e rest
          (λ c. to_one free c e rest (initial b) b bs) (parts.0 h)),
      (λ h. parts.1 (step_same _ (step_in budget) (b ∷ bs) _ _ e rest
          (λ c. from_one free c e rest (initial b) b bs) h)),
    )

-- ---- reading a canonical encoding

-- of inputs below so many bytes
abbrev Below : ℕ → Rejection → Rejection → Type 0
Below k s t =
    (bs : List ℕ) (e : InputError) (rest : List ℕ) → length bs < k → s bs e rest → t bs e rest

definite_below : (k : ℕ) (W : Tree → Type 0) (s t : Rejection) (n : ℕ) → Below k s t
    → Below k (RejectsInCount W s n) (RejectsInCount W t n)
definite_below k W s t n f bs e rest lt x =
    in_count x.prefix x.after x.few x.whole x.is (f x.after e rest (trailing k bs
    (bytes_all x.prefix) x.after lt x.is) x.rejected)

at_shortest_below : (k : ℕ) (name : List ℕ) (major : ℕ) (b : Budget) (s t : ℕ → Rejection)
    → ((n : ℕ) → Below k (s n) (t n))
    → Below (suc k) (AtShortest name major b s) (AtShortest name major b t)
at_shortest_below k name major b s t f bs e rest lt (inl x) = inl x
at_shortest_below k name major b s t f bs e rest lt (inr x) = search (rules, length-append, inr)

canonical_by_below : (k : ℕ) (b : Budget) (s t : Budget → Rejection)
    → ((c : Budget) → Below k (s c) (t c)) → (major : ℕ) (a : ℕ)
    → Below k (CanonicalRejectsBy s b major a) (CanonicalRejectsBy t b major a)
canonical_by_below k b s t f (suc (suc (suc (suc zero)))) a bs e rest lt x =
    step_same array_name (step_in b) (a ∷ bs) _ _ e rest (λ c. at_shortest_below k array_name 4 c _
    _ (λ n. definite_below k (FitsCanonically c) (s c) (t c) n (f c)) (a ∷ bs) e rest (omega arith))
    x
canonical_by_below k b s t f (suc (suc (suc (suc (suc zero))))) a bs e rest lt x =
    step_same map_name (step_in b) (a ∷ bs) _ _ e rest (λ c. at_shortest_below k map_name 5 c _ _
    (λ n. definite_below k (FitsCanonically c) (s c) (t c) (2 * n) (f c)) (a ∷ bs) e rest
    (omega arith)) x
canonical_by_below k b s t f (suc (suc (suc (suc (suc (suc zero)))))) a bs e rest lt x =
    at_shortest_below k tag_name 6 b (λ n. s b) (λ n. t b) (λ n. f b)
    (a ∷ bs) e rest (omega arith) x
canonical_by_below k b s t f _ a bs e rest lt x = x

canonical_from_below : (k : ℕ) (b : Budget) (s t : Budget → Rejection)
    → ((c : Budget) → Below k (s c) (t c))
    → Below (suc k) (CanonicalRejectsFrom s b) (CanonicalRejectsFrom t b)
canonical_from_below k b s t f [] e rest lt x = x
canonical_from_below k b s t f (a ∷ bs) e rest lt x =
    canonical_by_below k b s t f (a / 32) a bs e rest (omega arith) x

within : (k n m : ℕ) (b : Budget) → k ≤ n → k ≤ m
    → Below k (CanonicalRejectsWithin n b) (CanonicalRejectsWithin m b)
within (suc k) zero m b p q bs e rest lt x = absurd x
within (suc k) (suc n) (suc m) b p q bs e rest lt x =
    step_same value_name (step_in b) bs _ _ e rest (λ c. canonical_from_below k c
    (CanonicalRejectsWithin n) (CanonicalRejectsWithin m)
    (λ d. within k n m d (omega arith) (omega arith)) bs e rest lt) x
within _ _ _ b p q bs e rest lt x = absurd (omega arith)

whole : Budget → Rejection
whole b part = CanonicalRejects part b

pub canonical_by_parts : (input : List ℕ) (budget : Budget) (e : InputError) (rest : List ℕ)
    → CanonicalRejects input budget e rest ↔ CanonicalRejectsByParts input budget e rest
unfolding whole
canonical_by_parts input budget e rest =
    let n : ℕ = length input in (
      step_same value_name (step_in budget) input _ _ e rest (λ c. canonical_from_below n c
          (CanonicalRejectsWithin n) whole (λ d bs e' rest' lt. within (suc (length bs)) n
          (suc (length bs)) d (omega arith) (omega arith) bs e' rest' (omega arith)) input e rest
          (omega arith)),
      step_same value_name (step_in budget) input _ _ e rest (λ c. canonical_from_below n c whole
          (CanonicalRejectsWithin n) (λ d bs e' rest' lt. within (suc (length bs))
          (suc (length bs)) n d (omega arith) (omega arith) bs e' rest' (omega arith)) input e rest
          (omega arith)),
    )
