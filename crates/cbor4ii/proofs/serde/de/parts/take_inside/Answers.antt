use Rattle.cbor4ii_items.specs.Laws.Calls.{part_then, of_exact}
use Rattle.cbor4ii_items.specs.Laws.SequenceHeads.{head_err, counts, opens}
use Rattle.cbor4ii_items.specs.Sequences.{count_of, indefinite_of, inside_of, in_list}
use Rattle.cbor4ii.specs.Typed.{parts_answer}
use Rattle.cbor4ii.proofs.serde.de.parts.take_inside.Goals as goal

pub returns-in-Ok-Some : goal.returns-in-Ok-Some
returns-in-Ok-Some g c =
    let s = g.Q.Sequence.part in
    part_then (count_of in_list s _) (inside_of in_list g.Q.Sequence.name g.Q.Sequence.major s)
    (parts_answer c.take_counted.result)
    (counts in_list g.Q.Sequence.name g.Q.Sequence.major s g.met.Q.Sequence.small
    c.in-Ok-Some.field-0-is c.in-Ok-Some.ensures) c.take_counted.ensures

pub returns-in-Ok-None : goal.returns-in-Ok-None
returns-in-Ok-None g c =
    let s = g.Q.Sequence.part in
    part_then (indefinite_of in_list g.Q.Sequence.name s)
    (inside_of in_list g.Q.Sequence.name g.Q.Sequence.major s)
    (parts_answer c.take_indefinite.result)
    (opens in_list g.Q.Sequence.name g.Q.Sequence.major s g.met.Q.Sequence.small
    c.in-Ok-None.field-0-is c.in-Ok-None.ensures) c.take_indefinite.ensures

pub returns-in-Err : goal.returns-in-Err
returns-in-Err g c =
    head_err in_list g.Q.Sequence.name g.Q.Sequence.major g.Q.Sequence.part g.met.Q.Sequence.small
    (of_exact c.in-Err.ensures)
