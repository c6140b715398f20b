-- One byte, one float or a break that is rejected has one error.
use Rattle.std.proofs.Common.{◌≡◌, ℕ, inl, inr, List, [], ◌∷◌, sym, ◌∙◌}
use Rattle.cbor4ii_items.specs.Floats.{RejectsFloat, CutFloat}
use Rattle.cbor4ii_items.specs.InputError.{InputError}
use Rattle.cbor4ii_items.specs.Marked.{NoneBegins}
use Rattle.cbor4ii_items.specs.Nothing.{RejectsNothing}
use Rattle.cbor4ii_items.specs.OneError.{OneError}
use Rattle.cbor4ii_items.specs.Simple.{RejectsBool, IsBool}
use Rattle.cbor4ii_items.specs.Strings.{RejectsBreak}
use Rattle.std.specs.Prelude.{codes}

none_begins : (name : List ℕ) (begins : ℕ → Type 0) (xs : List ℕ) (e f : InputError)
    (x y : List ℕ) → NoneBegins name begins xs e x → NoneBegins name begins xs f y
    → (e ≡ f) × (x ≡ y)
none_begins name begins [] e f x y s t = (s.0 ∙ sym t.0, s.1 ∙ sym t.1)
none_begins name begins (b ∷ bs) e f x y s t = (s.1 ∙ sym t.1, s.2 ∙ sym t.2)

pub bool_error : OneError RejectsBool
bool_error xs budget e f x y s t = none_begins (codes "bool") IsBool xs e f x y s t

pub nothing_error : OneError RejectsNothing
nothing_error xs budget e f x y s t = absurd s

pub break_error : OneError RejectsBreak
break_error xs budget e f x y s t = (s.1 ∙ sym t.1, s.2 ∙ sym t.2)

-- a float that is cut begins with its first byte
begins_or_not : (name : List ℕ) (marker count : ℕ) (xs : List ℕ) (e f : InputError) (x y : List ℕ)
    → NoneBegins name (λ b. b ≡ marker) xs e x → CutFloat name marker count xs f y → ⊥
begins_or_not name marker count [] e f x y s t = let is = t.is in cc
begins_or_not name marker count (b ∷ bs) e f x y s t =
    let same : b ≡ marker = (let is = t.is in cc) in s.0 same

pub float_error : (name : List ℕ) (marker count : ℕ) → OneError (RejectsFloat name marker count)
float_error name marker count xs budget e f x y (inl s) (inl t) =
    none_begins name (λ b. b ≡ marker) xs e f x y s t
float_error name marker count xs budget e f x y (inl s) (inr t) =
    absurd (begins_or_not name marker count xs e f x y s t)
float_error name marker count xs budget e f x y (inr s) (inl t) =
    absurd (begins_or_not name marker count xs f e y x t s)
float_error name marker count xs budget e f x y (inr s) (inr t) =
    (s.answer ∙ sym t.answer, s.left ∙ sym t.left)
