use Rattle.std.proofs.Common.{[], arith, rules}
use Rattle.cbor4ii_items.proofs.WholeHeads.{found_some, found_none, runs_stayed, progress_stayed}
use Rattle.cbor4ii_items.proofs.WholeHeads.{runs_broke}
use Rattle.cbor4ii_items.proofs.SignedRuns.{minus_read, minus_rejected, negative_is}
use Rattle.cbor4ii_items.proofs.numbers.signed.signed_below_zero.Goals as goal

pub returns-then-argument-limit-clause-runs : goal.returns-then-argument-limit-clause-runs
returns-then-argument-limit-clause-runs g c =
    minus_rejected _ _ _ _ _ c.if-argument-limit.true
    (found_some _ _ c.in-Ok-Some.field-0-is (c.in-Ok-Some.ensures.runs c.args.minus.now))

pub returns-else-argument-limit-clause-runs : goal.returns-else-argument-limit-clause-runs
returns-else-argument-limit-clause-runs g c =
    let e = negative_is c.negative.result c.in-Ok-Some.argument
    (omega (arith, c.if-argument-limit.false, c.requires)) c.negative.ensures in
    minus_read c.args.name.now c.args.minus _ _ _ e c.if-argument-limit.false
    (found_some _ _ c.in-Ok-Some.field-0-is (c.in-Ok-Some.ensures.runs c.args.minus.now))

pub returns-in-Ok-None : goal.returns-in-Ok-None
returns-in-Ok-None g c = record {
  runs =
      runs_stayed (found_none _ _ _ c.in-Ok-None.field-0-is (c.in-Ok-None.ensures.runs []))
      c.signed_by_bytes.ensures.runs;
  progress =
      progress_stayed _ _ (found_none _ _ _ c.in-Ok-None.field-0-is (c.in-Ok-None.ensures.runs []))
      c.signed_by_bytes.ensures.progress;
  memory = c.signed_by_bytes.ensures.memory;
  range = c.signed_by_bytes.ensures.range;
}

pub returns-in-Err-clause-runs : goal.returns-in-Err-clause-runs
returns-in-Err-clause-runs g c = runs_broke (c.in-Err.ensures.runs [])

pub returns-else-argument-limit-clause-range : goal.returns-else-argument-limit-clause-range
returns-else-argument-limit-clause-range g c = search (rules, negative_is)
