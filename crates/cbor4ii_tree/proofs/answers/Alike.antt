-- Two calls over one input are answered alike.
use Rattle.std.proofs.Common.{◌≡◌, ℕ, List, Some, None, Option, Result, Ok, Err, inl, inr, ◌⊎◌}
use Rattle.std.proofs.Common.{refl, sym, subst, ◌∙◌, rules}
use Rattle.std.specs.Prelude.{IfSome}
use Rattle.cbor4ii_rw.specs.{View.View, declared.error.DecodeError.DecodeError}
use Rattle.cbor4ii_items.specs.{Decoding.Decodes, InputError.{InputError, input_error_of}}
use Rattle.cbor4ii_tree.specs.{Basis.Headline.Answered, Basis.View.view}
use Rattle.cbor4ii_tree.specs.Calls.Canonically.{canonical_format, AllCanonical, ExactCanonical}
use Rattle.cbor4ii_tree.specs.Calls.Canonically.{OnlyCanonical}
use Rattle.cbor4ii_tree.specs.Calls.CanonicalRejects.{CanonicalRejects}
use Rattle.cbor4ii_tree.specs.{Calls.CanonicalShape.DecodesCanonically, Calls.SameAnswer.SameAnswer}
use Rattle.cbor4ii_tree.specs.declared.decode_canonical.Canonical.{Canonical}

none_of : {A : Type 0} (o : Option A) → IfSome o (λ _. ⊥) → o ≡ None
none_of None a = refl
none_of (Some x) a = absurd a

some_of : {A : Type 0} (P : A → Type 0) (o : Option A) → IfSome o P
    → (o ≡ None) ⊎ ((x : A) × (o ≡ Some x) × P x)
some_of P None a = inl refl
some_of P (Some x) a = inr (x, refl, a)

module _ {V E F : Type 0} (same : V → V → Type 0) (new after : View) where
  -- both accept
  pub both_ok : (P Q : V → Type 0) → ((v w : V) → P v → Q w → same v w)
      → (rest : List ℕ) (r : Result V (DecodeError E)) (s : Result V (DecodeError F))
      → Answered (λ w. P w × (new.known ≡ Some rest)) (λ _. ⊥) r
      → Answered (λ w. Q w × (after.known ≡ Some rest)) (λ _. ⊥) s → SameAnswer same new after r s
  both_ok P Q alike rest (Ok v) (Ok w) a b = inr (inr (alike v w a.0 b.0, a.1 ∙ sym b.1))
  both_ok P Q alike rest (Err e) s a b = inl (none_of (input_error_of e) a)
  both_ok P Q alike rest (Ok v) (Err f) a b = inr (inl (none_of (input_error_of f) b))

  -- both reject
  pub both_err : (z : InputError) (rest : List ℕ) (r : Result V (DecodeError E))
      (s : Result V (DecodeError F))
      → Answered (λ _. ⊥) (λ f. (f ≡ z) × (new.known ≡ Some rest)) r
      → Answered (λ _. ⊥) (λ f. (f ≡ z) × (after.known ≡ Some rest)) s → SameAnswer same new after r s
  both_err z rest (Ok x) s a b = absurd a
  both_err z rest (Err e) (Ok y) a b = absurd b
  both_err z rest (Err e) (Err f) a b = search (rules, some_of, inl, inr)

-- both skip
module _ {V E F : Type 0} (new after : View) where
  pub both_skipped : (rest : List ℕ) (r : Result V (DecodeError E)) (s : Result V (DecodeError F))
      → Answered (λ _. new.known ≡ Some rest) (λ _. ⊥) r
      → Answered (λ _. after.known ≡ Some rest) (λ _. ⊥) s
      → SameAnswer (λ _ _. Unit {0}) new after r s
  both_skipped rest (Ok v) (Ok w) a b = inr (inr (tt, a ∙ sym b))
  both_skipped rest (Err e) s a b = inl (none_of (input_error_of e) a)
  both_skipped rest (Ok v) (Err f) a b = inr (inl (none_of (input_error_of f) b))

-- ---- by what one of the calls answers

module _ {V F : Type 0} (same : V → V → Type 0) (new after : View) (rest : List ℕ)
    (left : new.known ≡ Some rest) where
  -- one accepts
  pub by_ok : (E : Type 0) (P : V → Type 0) (v : V) → ((w : V) → P w → same v w)
      → (s : Result V (DecodeError F))
      → Answered (λ w. P w × (after.known ≡ Some rest)) (λ _. ⊥) s
      → SameAnswer {E = E} same new after (Ok v) s
  by_ok E P v alike (Ok w) a = inr (inr (alike w a.0, left ∙ sym a.1))
  by_ok E P v alike (Err f) a = inr (inl (none_of (input_error_of f) a))

  -- one rejects
  pub by_err : {E : Type 0} (e : DecodeError E) (z : InputError) → input_error_of e ≡ Some z
      → (s : Result V (DecodeError F))
      → Answered (λ _. ⊥) (λ f. (f ≡ z) × (after.known ≡ Some rest)) s
      → SameAnswer same new after (Err e) s
  by_err e z is (Ok w) a = absurd a
  by_err e z is (Err f) a = search (rules, some_of, inl, inr)

-- both read from a canonical encoding
pub both_canonical : {E F : Type 0} (xs : List ℕ) (old new other after : View)
    (r : Result Canonical (DecodeError E)) (s : Result Canonical (DecodeError F))
    → old.known ≡ Some xs → other.known ≡ Some xs → old.budget ≡ other.budget
    → Decodes canonical_format old new r → OnlyCanonical old new r → AllCanonical other after s
    → ExactCanonical other after s → SameAnswer (λ v w. view v.0 ≡ view w.0) new after r s
both_canonical {E = E} xs old new other after (Ok v) s known knows same d only all exact =
    let o = only xs known in
    by_ok (λ v w. view v.0 ≡ view w.0) new after o.0 o.1 E (λ w. view w.0 ≡ view v.0) v (λ w p. sym p)
    s (all xs knows (view v.0) o.0 (subst (λ b. DecodesCanonically xs b (view v.0) o.0) same o.2))
both_canonical xs old new other after (Err e) s known knows same d only all exact =
    elim (some_of (λ z. (rest : List ℕ) × (new.known ≡ Some rest)
    × CanonicalRejects xs old.budget z rest) (input_error_of e) ((d.rejects (inl refl)).at xs known)) [
      | inl p ↦ inl p
      | inr p ↦ by_err (λ v w. view v.0 ≡ view w.0) new after p.2.0 p.2.1 e p.0 p.1 s
          (exact xs knows p.0 p.2.0
          (subst (λ b. CanonicalRejects xs b p.0 p.2.0) same p.2.2))
    ]
