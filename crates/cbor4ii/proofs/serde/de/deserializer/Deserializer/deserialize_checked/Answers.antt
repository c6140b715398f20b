use Rattle.std.proofs.Common.{rules}
use Rattle.cbor4ii.proofs.Checking.{checked_ok, checked_err, checked_memory, unchecked}
use Rattle.cbor4ii.proofs.serde.de.deserializer.Deserializer.deserialize_checked.Goals as goal

pub returns-in-Ok-checked_from-clause-promised : goal.returns-in-Ok-checked_from-clause-promised
returns-in-Ok-checked_from-clause-promised g c =
    checked_ok g.V.Typed.promise g.T.CheckedFrom.words g.T.CheckedFrom.makes
    g.T.CheckedFrom.takes_memory c.in-Ok-checked_from.ensures c.in-Ok.ensures

pub returns-in-Err-Rejected-clause-promised : goal.returns-in-Err-Rejected-clause-promised
returns-in-Err-Rejected-clause-promised g c =
    unchecked g.V.Typed.promise g.T.CheckedFrom.words g.T.CheckedFrom.makes
    g.T.CheckedFrom.takes_memory g.met.T.CheckedFrom.fate
    (rw c.in-Err-Rejected.field-0-is at c.in-Err-Rejected.ensures) c.in-Ok.ensures

pub returns-in-Err-OutOfMemory-clause-promised : goal.returns-in-Err-OutOfMemory-clause-promised
returns-in-Err-OutOfMemory-clause-promised g c = search (rules, checked_memory)

pub returns-in-Err-clause-promised : goal.returns-in-Err-clause-promised
returns-in-Err-clause-promised g c =
    checked_err g.V.Typed.promise g.T.CheckedFrom.words g.T.CheckedFrom.makes
    g.T.CheckedFrom.takes_memory c.in-Err.ensures

pub returns-in-Err-OutOfMemory-clause-after_value : goal.returns-in-Err-OutOfMemory-clause-after_value
returns-in-Err-OutOfMemory-clause-after_value g c never out = (_, c.in-Ok.ensures.sound)
