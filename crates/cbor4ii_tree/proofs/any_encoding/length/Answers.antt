use Rattle.std.proofs.Common.{false, refl, true}
use Rattle.cbor4ii_tree.proofs.values.Sequences.{gives_none, is_map, length_does}
use Rattle.cbor4ii_tree.proofs.any_encoding.length.Goals as goal

pub returns-then-major-eq-ARRAY : goal.returns-then-major-eq-ARRAY
returns-then-major-eq-ARRAY g c =
    rw c.if-major-eq-ARRAY.true (gives_none (length_does false c.part.result _
    (rw c.part.ensures at c.len.ensures.moves) (rw c.part.ensures at c.len.ensures.sound)
    (rw c.part.ensures at c.len.ensures.begins)) (rw c.part.ensures at c.len.ensures.memory)
    ((rw c.part.ensures at c.len.ensures.progress) refl))

pub returns : goal.returns
returns g c =
    rw (is_map c.requires c.if-major-eq-ARRAY.false) (gives_none (length_does true c.part-2.result _
    (rw c.part-2.ensures at c.len-2.ensures.moves) (rw c.part-2.ensures at c.len-2.ensures.sound)
    (rw c.part-2.ensures at c.len-2.ensures.begins)) (rw c.part-2.ensures at c.len-2.ensures.memory)
    ((rw c.part-2.ensures at c.len-2.ensures.progress) refl))
