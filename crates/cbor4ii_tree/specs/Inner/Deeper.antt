-- Items in the last place of others, gone on with under steps that are kept.
use Rattle.std.specs.Prelude.{◌≡◌, ℕ, zero, suc, List, true}
use Rattle.cbor4ii_rw.specs.{View.View, Reader.StepsIn}
use Rattle.cbor4ii_tree.specs.{Basis.Cost.Budget, Basis.InputError.InputError}
use Rattle.cbor4ii_tree.specs.Inner.Skipping.{SkipsItems, RejectsSkippingItems}

-- so many steps were taken, and this budget is left
abbrev pub Deeper : ℕ → Budget → Budget → Type 0
Deeper zero outer inner = inner ≡ outer
Deeper (suc d) outer inner =
    (between : Budget) × Deeper d outer between × StepsIn between inner true

-- the view with this budget
abbrev pub with_budget : Budget → View → View
with_budget budget view = record view { budget = budget }

-- Where so many items are skipped of `ys` under the inner budget, so many are of `xs` under the
-- outer, and so with what is rejected.
-- What follows `ys` under the inner budget is what follows `xs` under the outer.
pub record FollowsInside (total : ℕ) (inner outer : Budget) (xs : List ℕ) (left : ℕ)
    (ys : List ℕ) : Type 0 where
  pub skips : (rest : List ℕ) → SkipsItems left inner ys rest → SkipsItems total outer xs rest
  pub rejects : (e : InputError) (rest : List ℕ) → RejectsSkippingItems left inner ys e rest
      → RejectsSkippingItems total outer xs e rest
