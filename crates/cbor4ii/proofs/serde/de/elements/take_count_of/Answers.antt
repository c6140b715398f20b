use Rattle.std.proofs.Common.{refl}
use Rattle.cbor4ii.proofs.Tupled.{head_counts, head_differs, head_missing, not_count}
use Rattle.cbor4ii.proofs.Tupled.{not_indefinite}
use Rattle.cbor4ii.proofs.Tupled.{definite_len, indefinite_len}
use Rattle.cbor4ii.proofs.serde.de.elements.take_count_of.Goals as goal

pub returns-then-are : goal.returns-then-are
returns-then-are g c =
    head_counts c.in-Ok-Some.field-0-is (c.are.ensures.0 c.if-are.true) c.in-Ok-Some.ensures

pub returns-else-are : goal.returns-else-are
returns-else-are g c =
    head_differs refl (not_count c.in-Ok-Some.field-0-is
    (λ same. (let t = c.are.ensures.1 same in let f = c.if-are.false in cc)))
    (definite_len c.in-Ok-Some.field-0-is c.new.ensures.small c.new.ensures.big)
    c.in-Ok-Some.ensures

pub returns-in-Ok-None : goal.returns-in-Ok-None
returns-in-Ok-None g c =
    head_differs refl (not_indefinite c.in-Ok-None.field-0-is)
    (indefinite_len c.in-Ok-None.field-0-is) c.in-Ok-None.ensures

pub returns-in-Err : goal.returns-in-Err
returns-in-Err g c = head_missing c.in-Err.ensures
