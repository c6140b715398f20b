use Rattle.std.proofs.Common.{Ok, Err, refl}
use Rattle.std.proofs.lemmas.Result.{err_from_is_err_and}
use Rattle.cbor4ii_items.specs.Laws.Calls.{by_ok, by_err_if, of_exact, exactly_ok}
use Rattle.cbor4ii_items.specs.Sequences.{pair_format}
use Rattle.cbor4ii.specs.Tuples.{three}
use Rattle.cbor4ii.specs.TypedParts.{part_of, part_lawful, two_of}
use Rattle.cbor4ii.proofs.Pairs.{two_ok, first_err, second_err}
use Rattle.cbor4ii.proofs.Promised.{tell}
use Rattle.cbor4ii.proofs.serde.de.tuples.three_parts.Goals as goal

pub returns-in_err-first : goal.returns-in_err-first
returns-in_err-first g c =
    let p = err_from_is_err_and c.from_residual.result c.from_residual.ensures.1 in
    let first = part_of g.A.Typed.promise in
    let others = two_of g.B.Typed.promise g.C.Typed.promise in
    rw (p.1, p.2) (by_err_if three (pair_format first others) (first_err first others _
    (tell g.A.Typed.promise (Err _) c.in_err-first.ensures)))

pub returns-in-Ok : goal.returns-in-Ok
returns-in-Ok g c =
    let first = part_of g.A.Typed.promise in
    let others = two_of g.B.Typed.promise g.C.Typed.promise in
    of_exact (by_ok three (pair_format first others) refl (exactly_ok (two_ok first others
    (tell g.A.Typed.promise (Ok _) c.in_ok-first.ensures) c.in-Ok.ensures)))

pub returns-in-Err : goal.returns-in-Err
returns-in-Err g c =
    let first = part_of g.A.Typed.promise in
    let others = two_of g.B.Typed.promise g.C.Typed.promise in
    by_err_if three (pair_format first others) (second_err first others
    (part_lawful g.A.Typed.promise) (tell g.A.Typed.promise (Ok _) c.in_ok-first.ensures)
    c.in-Err.ensures)
