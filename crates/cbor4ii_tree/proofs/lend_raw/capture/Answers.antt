use Rattle.cbor4ii_tree.proofs.raw_items.Captured.{captured, rejected_in, cut_begins}
use Rattle.cbor4ii_tree.proofs.lend_raw.capture.Goals as goal

pub returns-in-Ok-skip_lent-clause-captures : goal.returns-in-Ok-skip_lent-clause-captures
returns-in-Ok-skip_lent-clause-captures g c =
    captured g.T.LendRaw.content c.in-Ok.ensures.lent c.prefix.ensures
    c.in-Ok-skip_lent.ensures.skips c.skip_lent.ensures.stays c.skip_lent.ensures.budget
    c.advance.ensures c.cut.ensures.content

pub returns-in-Ok-skip_lent-clause-place : goal.returns-in-Ok-skip_lent-clause-place
returns-in-Ok-skip_lent-clause-place g c =
    cut_begins (g.S.Source.view c.args.reader.now) c.cut.ensures.place c.prefix.ensures
    c.in-Ok-skip_lent.ensures.skips c.in-Ok.ensures.place

pub returns-in-Err-clause-captures : goal.returns-in-Err-clause-captures
returns-in-Err-clause-captures g c =
    rejected_in c.in-Ok.ensures.lent c.prefix.ensures c.in-Err.ensures.rejects
    c.skip_lent.ensures.stays c.skip_lent.ensures.budget
