-- Calls after a first byte, where items are skipped.
use Rattle.std.proofs.Common.{◌≡◌, ℕ, ◌⊎◌, inl, inr, List, ◌∷◌, Ok, Err, Option, Some, None, false}
use Rattle.std.proofs.Common.{refl, sym, ◌∙◌, subst}
use Rattle.cbor4ii_rw.specs.{Reader.Advances, View.View, declared.error.DecodeError.DecodeError}
use Rattle.cbor4ii_items.specs.{Initial.initial, InputError.{InputError, input_error_of, is_read}}
use Rattle.cbor4ii_items.specs.InputError.{is_depth_overflow}
use Rattle.cbor4ii_tree.specs.{Basis.Cost.Budget, Calls.Rejections.Rejection}
use Rattle.cbor4ii_tree.specs.Inner.{BytesAhead.{Offers, FirstByteIs}, Does.{Accepting, Does}}
use Rattle.cbor4ii_tree.specs.Inner.Skipping.{start_of, RejectsSkippingUnder, HeadLeads, TakesFirst}
use Rattle.cbor4ii_tree.specs.Inner.Skipping.{rejection_of, SaysError}
use Rattle.cbor4ii_tree.specs.declared.skip.initial.{After.After, Start.Start}
use Rattle.cbor4ii_tree.proofs.skip_calls.Doing.{Reached, reached_by, reached_then, reached_as}
use Rattle.cbor4ii_tree.proofs.skip_calls.Doing.{does_ok, does_err, does_reject}
use Rattle.cbor4ii_tree.proofs.skip_calls.{Leaves.begins_none, Prefixes.{byte_taken, byte_stays}}
use Rattle.cbor4ii_tree.specs.declared.skip.initial.Start.TheVariants as start

abbrev pub First : ℕ → List ℕ → List ℕ → Type 0
First b xs ys = xs ≡ b ∷ ys

-- after a first byte that was taken
module _ {inner : Budget} {b : ℕ} {a c d : View} (first : Reached (First b) a c) {U E : Type 0}
    {A : Accepting U} {S : Rejection} where
  pub first_err : {e : DecodeError E} → ((bs : List ℕ) (z : InputError) (rest : List ℕ)
      → S bs z rest → RejectsSkippingUnder inner (b ∷ bs) z rest) → Does {V = U} A S c d (Err e)
      → Does {V = After} (HeadLeads inner) (RejectsSkippingUnder inner) a d (Err e)
  first_err f k =
      does_err _ _ _ S _ (λ xs ys z rest e m.
      subst (λ x. RejectsSkippingUnder inner x z rest) (sym e) (f ys z rest m)) first k

  pub first_ok : {trailing : After} {u : U} → ((bs ys : List ℕ) → A bs u ys
      → HeadLeads inner (b ∷ bs) trailing ys) → Does {E = E} A S c d (Ok u)
      → Does {E = E} (HeadLeads inner) (RejectsSkippingUnder inner) a d (Ok trailing)
  first_ok {trailing = trailing} f k =
      does_ok _ _ (reached_then _ _ (λ xs ys. HeadLeads inner xs trailing ys) (λ xs ys zs e h. subst
      (λ x. HeadLeads inner x trailing zs) (sym e) (f ys zs h)) first (reached_by k))

-- ---- a first byte with which no item begins

takes_or_not : (s : Start) → TakesFirst s ⊎ (TakesFirst s → ⊥)
takes_or_not start.Stays = inr (λ t. t)
takes_or_not start.Unsupported = inr (λ t. t)
takes_or_not _ = inl tt

-- another is taken
pub taken_first : (s : Start) (b : ℕ) → rejection_of s b ≡ None → TakesFirst s
taken_first start.Stays b none = cc
taken_first start.Unsupported b none = cc
taken_first _ b none = tt

pub says_not : {E : Type 0} (o : Option InputError) (answer : Option (DecodeError E))
    → SaysError o answer → ((e : DecodeError E) → answer ≡ Some e → ⊥) → o ≡ None
says_not None answer h not = refl
says_not (Some z) None h not = absurd h
says_not (Some z) (Some e) h not = absurd (not e refl)

says_some : {E : Type 0} (o : Option InputError) (e : DecodeError E) → SaysError o (Some e)
    → (z : InputError) × (o ≡ Some z) × (input_error_of e ≡ Some z) × (is_read e ≡ false)
    × (is_depth_overflow e ≡ false)
says_some None e h = cc
says_some (Some z) e h = (z, refl, h.0, h.1, h.2)

module _ {b : ℕ} {a m c : View} (o : Offers 1 (FirstByteIs b) a m) (s : Start)
    (taken : TakesFirst s → Advances 1 m c) where
  -- an item begins, and the byte is taken
  pub first_taken : rejection_of s b ≡ None → Reached (First b) a c
  first_taken none = byte_taken o (taken (taken_first s b none))

  -- it is taken or stays
  abbrev Seen : List ℕ → List ℕ → Type 0
  Seen xs ys =
      (bs : List ℕ) × (xs ≡ b ∷ bs) × (TakesFirst s → ys ≡ bs) × ((TakesFirst s → ⊥) → ys ≡ b ∷ bs)

  seen : ((TakesFirst s → ⊥) → c ≡ m) → Reached Seen a c
  seen left = elim (takes_or_not s) [
    | inl t ↦ reached_as (First b) Seen (λ xs ys e. (ys, e, λ t. refl, λ n. absurd (n t)))
        (byte_taken o (taken t))
    | inr n ↦ reached_as (λ xs ys. (ys ≡ xs) × (rest : List ℕ) × (xs ≡ b ∷ rest)) Seen
        (λ xs ys h. (h.1, h.2, λ t. absurd (n t), λ n. h.0 ∙ h.2)) (subst (λ v. Reached
        (λ xs ys. (ys ≡ xs) × (rest : List ℕ) × (xs ≡ b ∷ rest)) a v) (sym (left n)) (byte_stays o))
  ]

  pub first_rejected : (inner : Budget) {E : Type 0} {e : DecodeError E} → s ≡ start_of (initial b)
      → ((TakesFirst s → ⊥) → c ≡ m) → SaysError (rejection_of s b) (Some e)
      → Does {V = After} (HeadLeads inner) (RejectsSkippingUnder inner) a c (Err e)
  first_rejected inner {e = e} is left says =
      let z = says_some (rejection_of s b) e says in
      does_reject Seen (HeadLeads inner) (RejectsSkippingUnder inner) z.0 z.2 z.3 z.4
      (λ xs ys h. subst
      (λ x. RejectsSkippingUnder inner x z.0 ys) (sym h.1) (begins_none inner b z.0 h.0 ys _ refl
      (subst
      (λ t. rejection_of t b ≡ Some z.0) is z.1) (subst (λ t. TakesFirst t → ys ≡ h.0) is h.2)
      (subst (λ t. (TakesFirst t → ⊥) → ys ≡ b ∷ h.0) is h.3))) (seen left)
