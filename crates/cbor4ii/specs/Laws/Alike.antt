-- Two calls over one input give one answer, where the type rejects it with one error.
use Rattle.std.proofs.Common.{◌≡◌, ◌⊎◌, inl, inr, ℕ, List, Option, Some, None, Result, Ok}
use Rattle.std.proofs.Common.{Err}
use Rattle.std.proofs.Common.{refl, IfSome, rules}
use Rattle.cbor4ii_rw.specs.View.{View}
use Rattle.cbor4ii_rw.specs.declared.error.DecodeError.{DecodeError}
use Rattle.cbor4ii_items.specs.Decoding.{Format, IsLawful, Accepted, NoneRead}
use Rattle.cbor4ii_items.specs.InputError.{input_error_of}
use Rattle.cbor4ii_items.specs.OneError.{OneError}
use Rattle.cbor4ii_tree.specs.Calls.SameAnswer.{SameAnswer}

some_or_none : {A : Type 0} (P : A → Type 0) (o : Option A) → IfSome o P
    → (o ≡ None) ⊎ ((x : A) × (o ≡ Some x) × P x)
some_or_none P None a = inl refl
some_or_none P (Some x) a = inr (x, refl, a)

-- what is accepted is not rejected
accepted_alone : {V G : Type 0} (s : Format V) (xs : List ℕ) (budget : Option ℕ) (v : V)
    (left : Option (List ℕ)) (e : DecodeError G) → Accepted s.reads xs budget left v
    → IfSome (input_error_of e) (λ _. NoneRead s.reads xs budget) → input_error_of e ≡ None
accepted_alone s xs budget v left e a b = search (rules, some_or_none, inl, inr)

both_accepted : {V : Type 0} (E F : Type 0) (s : Format V) (xs : List ℕ) (budget : Option ℕ)
    (new after : View) → IsLawful s → (v w : V) → Accepted s.reads xs budget new.known v
    → Accepted s.reads xs budget after.known w
    → SameAnswer {E = E} {F = F} s.same new after (Ok v) (Ok w)
both_accepted E F s xs budget new after lawful v w a b = search (rules, inr)

module _ {V E F : Type 0} (s : Format V) (xs : List ℕ) (budget : Option ℕ)
    (new after : View) where
  both_rejected : OneError s.rejects → (e : DecodeError E) (f : DecodeError F)
      → IfSome (input_error_of e)
      (λ z. (rest : List ℕ) × (new.known ≡ Some rest) × s.rejects xs budget z rest)
      → IfSome (input_error_of f)
      (λ z. (rest : List ℕ) × (after.known ≡ Some rest) × s.rejects xs budget z rest)
      → SameAnswer s.same new after (Err e) (Err f)
  both_rejected once e f a b = search (rules, some_or_none, inl, inr)

-- what a call answers over the bytes xs: a reading, or an error that the type gives
abbrev pub AnswersBy : {V E : Type 0} → Format V → List ℕ → Option ℕ → View
    → Result V (DecodeError E) → Type 0
AnswersBy s xs budget new (Ok v) = Accepted s.reads xs budget new.known v
AnswersBy s xs budget new (Err e) =
    IfSome (input_error_of e) (λ _. NoneRead s.reads xs budget)
    × IfSome (input_error_of e)
    (λ z. (rest : List ℕ) × (new.known ≡ Some rest) × s.rejects xs budget z rest)

pub answered_alike : {V E F : Type 0} (s : Format V) → IsLawful s → OneError s.rejects
    → (xs : List ℕ) (budget : Option ℕ) (new after : View) (r : Result V (DecodeError E))
    (t : Result V (DecodeError F)) → AnswersBy s xs budget new r → AnswersBy s xs budget after t
    → SameAnswer s.same new after r t
answered_alike {E = E} {F = F} s lawful once xs budget new after (Ok v) (Ok w) a b =
    both_accepted E F s xs budget new after lawful v w a b
answered_alike s lawful once xs budget new after (Ok v) (Err f) a b =
    inr (inl (accepted_alone s xs budget v new.known f a b.0))
answered_alike s lawful once xs budget new after (Err e) (Ok w) a b =
    inl (accepted_alone s xs budget w after.known e b a.0)
answered_alike s lawful once xs budget new after (Err e) (Err f) a b =
    both_rejected s xs budget new after once e f a.1 b.1
