use Rattle.cbor4ii.proofs.Items.{spares}
use Rattle.std.proofs.Common.{Ok, Err}
use Rattle.cbor4ii.proofs.Ends.{break_runs}
use Rattle.cbor4ii.proofs.serde.de.parts.takes_break.Goals as goal

pub returns-in-Ok-clause-runs : goal.returns-in-Ok-clause-runs
returns-in-Ok-clause-runs g c = break_runs (Ok _) c.in-Ok.ensures.decodes.moves
    c.in-Ok.ensures.decodes.sound tt

pub returns-in-Err-clause-runs : goal.returns-in-Err-clause-runs
returns-in-Err-clause-runs g c = break_runs (Err _) c.in-Err.ensures.decodes.moves tt
    c.in-Err.ensures.decodes.begins

pub returns-in-Err-clause-memory : goal.returns-in-Err-clause-memory
returns-in-Err-clause-memory g c = spares _ c.in-Err.ensures.decodes.memory
