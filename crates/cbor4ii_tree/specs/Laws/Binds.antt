-- Answers of the plain programs, taken apart and put together.
use Rattle.std.proofs.Common.{◌≡◌, ℕ, zero, suc, ◌+◌, ◌-◌, ◌⊎◌, inl, inr, List, Option, Some, None}
use Rattle.std.proofs.Common.{Ok, Err, Result, refl, ap, arith, rules}
use Rattle.cbor4ii_items.specs.{Budget.CostFits, Reading.go_on, Sequences.after_step}
use Rattle.cbor4ii_tree.specs.{Basis.Cost.{Budget, step_in}, Basis.InputError.InputError}
use Rattle.cbor4ii_tree.specs.{Calls.Rejections.{Is, RejectsAtStep}, Calls.Parse.{Answer, Parser}}
use Rattle.cbor4ii_tree.specs.Calls.Parse.{◌>>=◌, inside_step}

pub same_ok : {A E : Type 0} (r : Result A E) (x y : A) → r ≡ Ok x → r ≡ Ok y → x ≡ y
same_ok r x y p q = cc

pub same_err : {A E : Type 0} (r : Result A E) (x y : E) → r ≡ Err x → r ≡ Err y → x ≡ y
same_err r x y p q = cc

pub apart : {A E : Type 0} (r : Result A E) (x : A) (y : E) → r ≡ Ok x → r ≡ Err y → ⊥
apart r x y p q = cc

pub no_err : {A : Type 0} (x : A × List ℕ) (z : InputError × List ℕ)
    → ◌≡◌ {A = Answer A} (Ok x) (Err z) → ⊥
no_err x z e = cc

pub no_ok : {A : Type 0} (z : InputError × List ℕ) (x : A × List ℕ) → ◌≡◌ {A = Answer A}
    (Err z) (Ok x)
    → ⊥
no_ok z x e = cc

pub bind_ok : {A B : Type 0} (r : Answer A) (f : A × List ℕ → Answer B) (y : B × List ℕ)
    → (r >>= f) ≡ Ok y → (x : A × List ℕ) × (r ≡ Ok x) × (f x ≡ Ok y)
bind_ok (Ok x) f y e = (x, refl, e)
bind_ok {B = B} (Err z) f y e = absurd (no_ok {A = B} z y e)

pub bind_err : {A B : Type 0} (r : Answer A) (f : A × List ℕ → Answer B) (z : InputError × List ℕ)
    → (r >>= f) ≡ Err z → (r ≡ Err z) ⊎ ((x : A × List ℕ) × (r ≡ Ok x) × (f x ≡ Err z))
bind_err (Ok x) f z e = inr (x, refl, e)
bind_err {B = B} (Err y) f z e = inl (ap Err (same_err {A = B × List ℕ} (Err y) y z refl e))

pub then_err : {A B : Type 0} (r : Answer A) (next : A → Parser B) (z : InputError × List ℕ)
    → r ≡ Err z → go_on r next ≡ Err z
then_err r next z e = rw e refl

pub err : {A : Type 0} (f : InputError) (left : List ℕ) (e : InputError) (rest : List ℕ)
    → Is f left e rest → ◌≡◌ {A = Answer A} (Err (f, left)) (Err (e, rest))
err f left e rest h = cc

-- the answer's two parts
pub answer_parts : {A : Type 0} (r : Answer A) (a c : A) (b d : List ℕ) → r ≡ Ok (a, b)
    → r ≡ Ok (c, d)
    → (a ≡ c) × (b ≡ d)
answer_parts {A} r a c b d p q = search (rules, same_ok)

-- ---- steps

pub step_left : (b : Budget) → CostFits 1 b → step_in b ≡ Some (after_step b)
step_left None h = refl
step_left (Some zero) h = absurd (omega arith)
step_left (Some (suc n)) h = let e : suc n - 1 ≡ n = omega arith in rw e refl

-- a cost that fits one step later fits with that step
pub step_up : (b inner : Budget) (c : ℕ) → step_in b ≡ Some inner → CostFits c inner
    → CostFits (1 + c) b
step_up None inner c e f = tt
step_up (Some (suc n)) (Some m) c e f = let s : n ≡ m = cc in omega arith
step_up _ _ c e f = cc

pub stepped_rejects : {A : Type 0} (name : List ℕ) (step : Option Budget) (here : List ℕ)
    (next : Budget → Answer A) (rejects : Budget → InputError → List ℕ → Type 0) (e : InputError)
    (rest : List ℕ)
    → ((inner : Budget) → step ≡ Some inner → rejects inner e rest → next inner ≡ Err (e, rest))
    → RejectsAtStep name step here rejects e rest → inside_step name step here next ≡ Err (e, rest)
stepped_rejects name None here next rejects e rest k x = err _ _ _ _ x
stepped_rejects name (Some inner) here next rejects e rest k x = k inner refl x
