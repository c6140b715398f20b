use Rattle.std.proofs.Common.{refl, inl, rules}
use Rattle.cbor4ii.proofs.Items.{spares}
use Rattle.cbor4ii_items.specs.Laws.Running.{kept_alike}
use Rattle.cbor4ii.proofs.Contents.{content_complete, content_rejects, given_back}
use Rattle.cbor4ii.proofs.serde.de.enum_accessor.begin_tuple_content.Goals as goal

pub returns-in-Err-clause-complete : goal.returns-in-Err-clause-complete
returns-in-Err-clause-complete g c =
    content_complete _ c.if-not-content.false (c.in-Err.ensures.rejected.complete (inl refl))

pub returns-in-Err-clause-rejects : goal.returns-in-Err-clause-rejects
returns-in-Err-clause-rejects g c =
    content_rejects _ _ c.if-not-content.false c.step_out-in-Err.ensures.others
    c.in-Err.ensures.rejected.begins

pub returns-then-not-content-clause-finishes : goal.returns-then-not-content-clause-finishes
returns-then-not-content-clause-finishes g c = search (rules, given_back, kept_alike)

pub returns-in-Err-clause-memory : goal.returns-in-Err-clause-memory
returns-in-Err-clause-memory g c = spares _ c.in-Err.ensures.rejected.memory

pub returns-in-Err-clause-finishes : goal.returns-in-Err-clause-finishes
returns-in-Err-clause-finishes g c = search (rules, given_back)
