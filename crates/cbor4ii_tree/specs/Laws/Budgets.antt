-- Costs that fit budgets.
use Rattle.std.proofs.Common.{ℕ, ◌+◌, Some, None, arith}
use Rattle.cbor4ii_items.specs.{Budget.CostFits, Sequences.after_step}
use Rattle.cbor4ii_tree.specs.Basis.Cost.{Budget}

pub fits_left : (c : ℕ) (b : Budget) → CostFits (1 + c) b → CostFits c (after_step b)
fits_left c None h = tt
fits_left c (Some n) h = omega arith

-- two steps, one after another
pub fits_two : (c : ℕ) (b : Budget) → CostFits (2 + c) b
    → CostFits 1 (after_step b) × CostFits c (after_step (after_step b))
fits_two c None h = (tt, tt)
fits_two c (Some n) h = (omega arith, omega arith)
