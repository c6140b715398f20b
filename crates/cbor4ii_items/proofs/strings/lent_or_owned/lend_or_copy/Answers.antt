use Rattle.std.proofs.Common.{rules}
use Rattle.cbor4ii_items.proofs.CowAnswers.{lends_runs, takes_still, few_borrows}
use Rattle.cbor4ii_items.proofs.WholeHeads.{runs_broke}
use Rattle.cbor4ii_items.proofs.strings.lent_or_owned.lend_or_copy.Goals as goal

pub returns-in-Ok-clause-takes : goal.returns-in-Ok-clause-takes
returns-in-Ok-clause-takes g c = search (rules, lends_runs)

pub returns-in-Err-NotUtf8-clause-takes : goal.returns-in-Err-NotUtf8-clause-takes
returns-in-Err-NotUtf8-clause-takes g c = search (rules, lends_runs)

pub returns-in-Err-Short-clause-takes : goal.returns-in-Err-Short-clause-takes
returns-in-Err-Short-clause-takes g c = search (rules, takes_still)

pub returns-in-Err-Few-clause-takes : goal.returns-in-Err-Few-clause-takes
returns-in-Err-Few-clause-takes g c = search (rules, takes_still)

pub returns-in-Err-Few-clause-borrows : goal.returns-in-Err-Few-clause-borrows
returns-in-Err-Few-clause-borrows g c = search (rules, few_borrows)

pub returns-in-Err-Read-clause-takes : goal.returns-in-Err-Read-clause-takes
returns-in-Err-Read-clause-takes g c =
    record { by = runs_broke (rw c.in-Err-Read.field-0-is at c.in-Err-Read.ensures.lacks) }
