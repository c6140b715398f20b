use Rattle.std.proofs.Common.{arith, refl}
use Rattle.cbor4ii_tree.proofs.values.Sequences.{in_content, not_wanted, gives_err}
use Rattle.cbor4ii_tree.proofs.values.Heads.{takes_leaf, no_content, no_leaf}
use Rattle.cbor4ii_tree.proofs.leaf.take_leaf.Goals as goal

pub returns-in-Ok-Whole : goal.returns-in-Ok-Whole
returns-in-Ok-Whole g c =
    let offers = rw c.in-Ok-Whole.field-0-is at c.in-Ok-Whole.ensures.offers in
    record {
      does = takes_leaf _ _ _ offers c.advance.ensures;
      memory = tt;
      ranged = offers.is.ranged;
      gains = omega (arith, offers.shows.bound, c.advance.ensures.bound, offers.is.some);
    }

pub returns-in-Ok-NoMemory : goal.returns-in-Ok-NoMemory
returns-in-Ok-NoMemory g c =
    let offers = rw c.in-Ok-NoMemory.field-0-is at c.in-Ok-NoMemory.ensures.offers in
    gives_err (λ want. in_content _ offers) (no_content _ _ offers
    c.advance-in-Ok-NoMemory.ensures)

pub returns-in-Ok-End : goal.returns-in-Ok-End
returns-in-Ok-End g c =
    rw c.leave_end.ensures (gives_err not_wanted (no_leaf _ (rw c.in-Ok-End.field-0-is at
    c.in-Ok-End.ensures.offers) refl))

pub returns-in-Ok-Begins : goal.returns-in-Ok-Begins
returns-in-Ok-Begins g c =
    rw c.in-Ok-Begins.field-0-is at c.in-Ok-Begins.ensures.offers
