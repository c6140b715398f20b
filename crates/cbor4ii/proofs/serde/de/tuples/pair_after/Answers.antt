use Rattle.cbor4ii_items.specs.Laws.Calls.{part_then, of_exact}
use Rattle.cbor4ii.specs.Tuples.{after_format}
use Rattle.cbor4ii.specs.Typed.{answer_of}
use Rattle.cbor4ii.specs.TypedParts.{two_of}
use Rattle.cbor4ii.proofs.Tupled.{head_err, head_after}
use Rattle.cbor4ii.proofs.serde.de.tuples.pair_after.Goals as goal

pub returns-in-Ok : goal.returns-in-Ok
returns-in-Ok g c =
    let parts = two_of g.A.Typed.promise g.B.Typed.promise in
    part_then parts (after_format 2 parts) (answer_of c.two_parts.result)
    (head_after 2 parts c.in-Ok.ensures) c.two_parts.ensures

pub returns-in-Err : goal.returns-in-Err
returns-in-Err g c =
    head_err 2 (two_of g.A.Typed.promise g.B.Typed.promise) (of_exact c.in-Err.ensures)
