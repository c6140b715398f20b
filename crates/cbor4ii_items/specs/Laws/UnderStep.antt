-- A call under one step.
use Rattle.std.proofs.Common.{◌≡◌, ℕ, ◌+◌, ◌-◌, ◌<◌, ◌^◌, Option, None, Some, Result, Bool, true}
use Rattle.std.proofs.Common.{false, IsTrue, sym, ap, ◌∙◌, subst, arith, lt-ltb, inl}
use Rattle.std.proofs.Common.{inr, ◌≢◌, ◌≤◌, rules}
use Rattle.std.specs.Prelude.{MatchBool}
use Rattle.cbor4ii_rw.specs.View.{View}
use Rattle.cbor4ii_rw.specs.Reader.{KeepsAllButBudget, StepsIn, step_back}
use Rattle.cbor4ii_rw.specs.declared.error.DecodeError.{DecodeError}
use Rattle.cbor4ii_items.specs.Moves.{Kept, ReaderFailed, Moves}
use Rattle.cbor4ii_items.specs.Reading.{Reading, Runs}
use Rattle.cbor4ii_items.specs.Decoding.{IsExact}
use Rattle.cbor4ii_items.specs.Budget.{CostFits}
use Rattle.cbor4ii_items.specs.Sequences.{after_step}

again : (left : ℕ) → 0 < left → left < 2 ^ 64 → step_back (Some (left - 1)) ≡ Some left
again left some most = search (rules, lt-ltb)

pub step_again : (old new : Option ℕ) → StepsIn old new true → step_back new ≡ old
step_again None new h = ap step_back h
step_again (Some left) new h = ap step_back h.2 ∙ again left h.0 h.1

-- without a budget a step leaves none
pub step_unbound : (old new : Option ℕ) → StepsIn old new true → old ≡ None → new ≡ None
step_unbound None new h e = h
step_unbound (Some left) new h e = cc

pub fits_step : (old new : Option ℕ) (c : ℕ) → StepsIn old new true → CostFits c new
    → CostFits (1 + c) old
fits_step None new c h f = tt
fits_step (Some left) new c h f =
    let g : c ≤ left - 1 = subst (CostFits c) h.2 f in omega (arith, h.0, g)

pub fits_inside : (old new : Option ℕ) (c : ℕ) → StepsIn old new true → CostFits (1 + c) old
    → CostFits c new
fits_inside None new c h f = subst (CostFits c) (sym h) tt
fits_inside (Some left) new c h f = subst (CostFits c) (sym h.2) (omega (arith, f))

pub stepped_at : (old new : Option ℕ) → StepsIn old new true → (old ≢ Some 0)
    × (new ≡ after_step old)
stepped_at None new h = ((λ e. cc), h)
stepped_at (Some left) new h = ((λ e. let f : left ≡ 0 = cc in omega (arith, h.0, f)), h.2)

pub no_step : (old new : Option ℕ) → StepsIn old new false → (old ≡ Some 0) × (new ≡ old)
no_step None new h = absurd h
no_step (Some left) new h = let e : left ≡ 0 = h.0 in (ap Some e, h.1 ∙ ap Some (sym e))

module _ {a b c d : View} (i : KeepsAllButBudget a b) (o : KeepsAllButBudget c d) where
  kept_around : (c.budget ≡ b.budget → d.budget ≡ a.budget) → Kept b c → Kept a d
  kept_around same k = search rules

  broke_around : (c.budget ≡ b.budget → d.budget ≡ a.budget) → ReaderFailed b c → ReaderFailed a d
  broke_around same k = search rules

  pub moves_around : (t : Bool) → (c.budget ≡ b.budget → d.budget ≡ a.budget)
      → MatchBool t (ReaderFailed b c) (Kept b c) → MatchBool t (ReaderFailed a d) (Kept a d)
  moves_around true same k = broke_around same k
  moves_around false same k = kept_around same k

  pub runs_around : {V E : Type 0} {p : Reading V} {r : Result V (DecodeError E)}
      → (a.budget ≡ None → b.budget ≡ None) → (c.budget ≡ b.budget → d.budget ≡ a.budget)
      → Runs p b c r → Runs p a d r
  runs_around {p = p} {r = r} inner same f = search (rules, moves_around)

-- acceptance stays exact
pub exact_step : (owned : Bool) (a b : View) → KeepsAllButBudget a b → IsExact owned a
    → IsExact owned b
exact_step owned a b k (inl e) = inl e
exact_step owned a b k (inr e) =
    inr (subst IsTrue (sym k.zero_copy) e.0, λ xs known. e.1 xs (sym k.known ∙ known))

-- a call whose step was taken and given back
pub moves_stepped : {V E : Type 0} (r : Result V (DecodeError E)) (a b c d : View)
    → StepsIn a.budget b.budget true → KeepsAllButBudget a b → Moves b c r
    → d.budget ≡ step_back c.budget → KeepsAllButBudget c d → Moves a d r
moves_stepped r a b c d takes inward m gives outward =
    search (rules, moves_around, step_again, step_unbound)
