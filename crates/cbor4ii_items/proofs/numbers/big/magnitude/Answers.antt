use Rattle.cbor4ii_items.proofs.BigRuns.{runs_magnitude}
use Rattle.cbor4ii_items.proofs.numbers.big.magnitude.Goals as goal

pub returns-else-count-gt16-clause-runs : goal.returns-else-count-gt16-clause-runs
returns-else-count-gt16-clause-runs g c =
    runs_magnitude _ _ c.if-count-gt16.false (rw c.in-Some.is at c.in_ok-count.ensures.runs)
    c.number.ensures.runs
