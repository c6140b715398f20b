use Rattle.std.proofs.Common.{rules}
use Rattle.cbor4ii_ser.specs.Laws.Joining.{serializes_then, serializes_out, serializes_at}
use Rattle.cbor4ii_examples.proofs.sample.SampleSerialize.serialize.Goals as goal

pub returns-in_err-fields : goal.returns-in_err-fields
returns-in_err-fields g c =
    serializes_out _ c.from_residual.ensures.1
    (rw c.in_err-fields.was at c.serialize_struct.follows.holds-at-none)

pub returns-in_err-serialize_field : goal.returns-in_err-serialize_field
returns-in_err-serialize_field g c =
    serializes_at (serializes_then _ _ _ c.in_ok-fields.ensures.head
    (serializes_out _ c.from_residual-in_err-serialize_field.ensures.1
    c.in_err-serialize_field.ensures.written)) (search rules)

pub returns-in_err-serialize_field-2 : goal.returns-in_err-serialize_field-2
returns-in_err-serialize_field-2 g c =
    serializes_at (serializes_then _ _ _ c.in_ok-fields.ensures.head
    (serializes_then _ _ _ c.in_ok-serialize_field.ensures.written
    (serializes_out _ c.from_residual-in_err-serialize_field-2.ensures.1
    c.in_err-serialize_field-2.ensures.written))) (search rules)

pub returns-in_err-serialize_field-3 : goal.returns-in_err-serialize_field-3
returns-in_err-serialize_field-3 g c =
    serializes_at (serializes_then _ _ _ c.in_ok-fields.ensures.head
    (serializes_then _ _ _ c.in_ok-serialize_field.ensures.written
    (serializes_then _ _ _ c.in_ok-serialize_field-2.ensures.written
    (serializes_out _ c.from_residual-in_err-serialize_field-3.ensures.1
    c.in_err-serialize_field-3.ensures.written)))) (search rules)

pub returns : goal.returns
returns g c =
    serializes_at (serializes_then _ _ c.end.result c.in_ok-fields.ensures.head (serializes_then _ _
    c.end.result c.in_ok-serialize_field.ensures.written (serializes_then _ _ c.end.result
    c.in_ok-serialize_field-2.ensures.written (serializes_then _ _ c.end.result
    c.in_ok-serialize_field-3.ensures.written c.end.ensures.written)))) (search rules)
