use Rattle.std.proofs.Common.{rules}
use Rattle.cbor4ii.proofs.IfKnown.{on_ok, if_ok, if_err}
use Rattle.cbor4ii.proofs.Contents.{content_ok, content_err, content_said, content_rejected}
use Rattle.cbor4ii.proofs.serde.de.enum_accessor.EnumAccessor.newtype_variant.Goals as goal

pub returns-clause-sound : goal.returns-clause-sound
returns-clause-sound g c = search (rules, content_ok, if_ok)

pub returns-clause-complete : goal.returns-clause-complete
returns-clause-complete g c said exact =
    content_err _ c.deserialize.result _ c.if-not-self.false
    (if_err _ c.deserialize.result (c.deserialize.ensures.complete said exact))

pub returns-clause-rejects : goal.returns-clause-rejects
returns-clause-rejects g c =
    content_said _ _ _ c.deserialize.result _ _ _ c.if-not-self.false c.drop-self-2.ensures.others
    c.deserialize.ensures.moves (λ is. if_err _ c.deserialize.result
    (c.deserialize.ensures.begins is))

pub returns-clause-exact : goal.returns-clause-exact
returns-clause-exact g c said exact =
    content_rejected _ _ c.deserialize.result _ _ _ c.if-not-self.false c.drop-self-2.ensures.others
    (if_err _ c.deserialize.result (c.deserialize.ensures.rejects said exact))

pub returns-clause-finishes : goal.returns-clause-finishes
returns-clause-finishes g c =
    record { within = _; moves = c.deserialize.ensures.moves; closes = c.drop-self-2.ensures }

pub returns-clause-memory : goal.returns-clause-memory
returns-clause-memory g c = if_err _ c.deserialize.result c.deserialize.ensures.memory

pub returns-clause-progress : goal.returns-clause-progress
returns-clause-progress g c = search (rules, on_ok)
