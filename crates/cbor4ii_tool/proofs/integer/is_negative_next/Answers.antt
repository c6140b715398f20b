use Rattle.cbor4ii_tool.proofs.Decoded.{at_end, at_first}
use Rattle.cbor4ii_tool.proofs.integer.is_negative_next.Goals as goal

pub returns-in-Some-empty-clause-negative : goal.returns-in-Some-empty-clause-negative
returns-in-Some-empty-clause-negative g c xs known =
    at_end _ xs (c.in-Some-empty.ensures.prefix xs known) c.in-Some-empty.len_below

pub returns-in-Some-len1-up-clause-negative : goal.returns-in-Some-len1-up-clause-negative
returns-in-Some-len1-up-clause-negative g c xs known =
    at_first _ xs _ (c.in-Some-len1-up.ensures.prefix xs known) c.in-Some-len1-up.len_at_least
    c.if_major.ensures
