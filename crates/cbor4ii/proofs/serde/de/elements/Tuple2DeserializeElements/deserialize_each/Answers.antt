use Rattle.std.proofs.Common.{Ok, Err}
use Rattle.std.proofs.lemmas.Result.{err_from_is_err_and}
use Rattle.cbor4ii.specs.TypedParts.{part_of, part_lawful}
use Rattle.cbor4ii.proofs.Pairs.{two_ok, first_err, second_err}
use Rattle.cbor4ii.proofs.Promised.{tell}
use Rattle.cbor4ii.proofs.serde.de.elements.Tuple2DeserializeElements.deserialize_each.Goals as goal

pub returns-in_err-first : goal.returns-in_err-first
returns-in_err-first g c =
    let p = err_from_is_err_and c.from_residual.result c.from_residual.ensures.1 in
    rw (p.1, p.2) (first_err (part_of g.A.Typed.promise) g.B.TypedElements.elements.format _
    (tell g.A.Typed.promise (Err _) c.in_err-first.ensures))

pub returns-in-Ok : goal.returns-in-Ok
returns-in-Ok g c =
    two_ok (part_of g.A.Typed.promise) g.B.TypedElements.elements.format
    (tell g.A.Typed.promise (Ok _) c.in_ok-first.ensures) c.in-Ok.ensures

pub returns-in-Err : goal.returns-in-Err
returns-in-Err g c =
    second_err (part_of g.A.Typed.promise) g.B.TypedElements.elements.format
    (part_lawful g.A.Typed.promise)
    (tell g.A.Typed.promise (Ok _) c.in_ok-first.ensures) c.in-Err.ensures
