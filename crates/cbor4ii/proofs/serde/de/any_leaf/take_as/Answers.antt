use Rattle.std.proofs.Common.{Ok, Err}
use Rattle.cbor4ii_items.specs.Laws.Calls.{of_exact, decodes_exactly}
use Rattle.cbor4ii.proofs.AnyAnswers.{formed}
use Rattle.cbor4ii.proofs.Forms.{as_read}
use Rattle.cbor4ii.proofs.serde.de.any_leaf.take_as.Goals as goal

pub returns-in-Ok : goal.returns-in-Ok
returns-in-Ok g c =
    rw c.as_value.ensures (decodes_exactly
    (as_read (formed g.T.AsValue.form g.T.Decodable.format) (Ok _) (of_exact c.in-Ok.ensures)))

pub returns-in-Err : goal.returns-in-Err
returns-in-Err g c =
    decodes_exactly
    (as_read (formed g.T.AsValue.form g.T.Decodable.format) (Err _) (of_exact c.in-Err.ensures))
