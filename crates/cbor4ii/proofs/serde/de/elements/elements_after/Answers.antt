use Rattle.cbor4ii_items.specs.Laws.Calls.{part_then, of_exact}
use Rattle.cbor4ii.specs.Tuples.{after_format}
use Rattle.cbor4ii.specs.Typed.{answer_of}
use Rattle.cbor4ii.proofs.Tupled.{head_err, head_after}
use Rattle.cbor4ii.proofs.serde.de.elements.elements_after.Goals as goal

pub returns-in-Ok : goal.returns-in-Ok
returns-in-Ok g c =
    let e = g.V.TypedElements.elements in
    part_then e.format (after_format e.count e.format) (answer_of c.deserialize_each.result)
    (head_after e.count e.format c.in-Ok.ensures) c.deserialize_each.ensures

pub returns-in-Err : goal.returns-in-Err
returns-in-Err g c =
    let e = g.V.TypedElements.elements in
    head_err e.count e.format (of_exact c.in-Err.ensures)
