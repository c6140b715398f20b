use Rattle.std.proofs.Common.{Err, codes, rules}
use Rattle.cbor4ii_items.specs.Lengths.{length_format}
use Rattle.cbor4ii.proofs.Steps.{no_step_left, under, parts_opened}
use Rattle.cbor4ii.proofs.serde.de.heads.begin_map.Goals as goal

pub returns-then-not-step_in-clause-rejected : goal.returns-then-not-step_in-clause-rejected
returns-then-not-step_in-clause-rejected g c = search (rules, no_step_left)

pub returns-in-Ok-Some-clause-opened : goal.returns-in-Ok-Some-clause-opened
returns-in-Ok-Some-clause-opened g c = search (rules, parts_opened)

pub returns-in-Ok-None-clause-opened : goal.returns-in-Ok-None-clause-opened
returns-in-Ok-None-clause-opened g c = search (rules, parts_opened)

pub returns-in-Err-clause-rejected : goal.returns-in-Err-clause-rejected
returns-in-Err-clause-rejected g c =
    under (length_format (codes "map") 5) (codes "map")
    c.if-not-step_in.ensures.budget c.step_in.ensures.others c.step_out.ensures.others
    (Err c.in-Err.error) c.step_out.ensures.budget c.in-Err.ensures
