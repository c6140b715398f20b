use Rattle.std.proofs.Common.{refl}
use Rattle.cbor4ii.proofs.Presence.{value_sound, value_complete, no_value_comes, unmoved}
use Rattle.cbor4ii.proofs.Stopped.{stopped_after}
use Rattle.cbor4ii.proofs.serde.de.some_accessor.SomeAccessor.value.Goals as goal

pub returns-in-Ok-clause-sound : goal.returns-in-Ok-clause-sound
returns-in-Ok-clause-sound g c =
    value_sound _ c.if-not-self.false c.drop-self-in-Ok.ensures.others c.in-Ok.ensures.sound

pub returns-clause-complete : goal.returns-clause-complete
returns-clause-complete g c said exact =
    value_complete _ c.if-not-self.false (c.in-Err.ensures.complete said exact)

pub returns-clause-rejects : goal.returns-clause-rejects
returns-clause-rejects g c said =
    stopped_after _ c.drop-self-2.ensures.others (c.in-Err.ensures.begins said)

pub returns-clause-exact : goal.returns-clause-exact
returns-clause-exact g c said exact =
    stopped_after _ c.drop-self-2.ensures.others (c.in-Err.ensures.rejects said exact)

pub returns-in-Ok-clause-progress : goal.returns-in-Ok-clause-progress
returns-in-Ok-clause-progress g c =
    rw c.drop-self-in-Ok.ensures.others.bound c.in-Ok.ensures.progress

pub returns-then-not-self-clause-absent : goal.returns-then-not-self-clause-absent
returns-then-not-self-clause-absent g c none = (refl, unmoved none c.drop-self.ensures)

pub returns-in-Ok-clause-absent : goal.returns-in-Ok-clause-absent
returns-in-Ok-clause-absent g c none = no_value_comes c.if-not-self.false none

pub returns-clause-absent : goal.returns-clause-absent
returns-clause-absent g c none = no_value_comes c.if-not-self.false none
