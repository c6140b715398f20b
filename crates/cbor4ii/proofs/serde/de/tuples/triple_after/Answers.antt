use Rattle.cbor4ii_items.specs.Laws.Calls.{part_then, of_exact}
use Rattle.cbor4ii.specs.Tuples.{after_format}
use Rattle.cbor4ii.specs.Typed.{answer_of}
use Rattle.cbor4ii.specs.TypedParts.{three_of}
use Rattle.cbor4ii.proofs.Tupled.{head_err, head_after}
use Rattle.cbor4ii.proofs.serde.de.tuples.triple_after.Goals as goal

pub returns-in-Ok : goal.returns-in-Ok
returns-in-Ok g c =
    let parts = three_of g.A.Typed.promise g.B.Typed.promise g.C.Typed.promise in
    part_then parts (after_format 3 parts) (answer_of c.three_parts.result)
    (head_after 3 parts c.in-Ok.ensures) c.three_parts.ensures

pub returns-in-Err : goal.returns-in-Err
returns-in-Err g c =
    head_err 3 (three_of g.A.Typed.promise g.B.Typed.promise g.C.Typed.promise)
    (of_exact c.in-Err.ensures)
