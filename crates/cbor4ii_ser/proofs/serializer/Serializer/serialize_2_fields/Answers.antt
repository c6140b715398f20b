use Rattle.cbor4ii_ser.specs.Laws.Joining.{◌⨾◌, serializes_last}
use Rattle.cbor4ii_ser.proofs.Failing.{failed_then}
use Rattle.cbor4ii_ser.proofs.serializer.Serializer.serialize_2_fields.Goals as goal

pub returns-in_default : goal.returns-in_default
returns-in_default g c = failed_then _ _ c.in_default.ensures.failed c.in_default.ensures.writes

pub returns-in_default-put_field : goal.returns-in_default-put_field
returns-in_default-put_field g c =
    c.in-Some.ensures.writes
    ⨾ failed_then _ _ c.in_default-put_field.ensures.failed c.in_default-put_field.ensures.writes

pub returns-in_default-put_field-2 : goal.returns-in_default-put_field-2
returns-in_default-put_field-2 g c =
    c.in-Some.ensures.writes ⨾ c.in-Some-put_field.ensures.writes
    ⨾ failed_then _ _ c.in_default-put_field-2.ensures.failed
    c.in_default-put_field-2.ensures.writes

pub returns : goal.returns
returns g c =
    c.in-Some.ensures.writes ⨾ c.in-Some-put_field.ensures.writes
    ⨾ serializes_last _ c.in-Some-put_field-2.ensures.writes
