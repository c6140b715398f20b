use Rattle.cbor4ii_ser.specs.Laws.Joining.{◌⨾◌, serializes_last}
use Rattle.cbor4ii_ser.proofs.Failing.{failed_then}
use Rattle.cbor4ii_ser.proofs.tuples.put_pair.Goals as goal

pub returns-in_default : goal.returns-in_default
returns-in_default g c = failed_then _ _ c.in_default.ensures.failed c.in_default.ensures.writes

pub returns-in_default-put_value : goal.returns-in_default-put_value
returns-in_default-put_value g c =
    c.in-Some.ensures.writes
    ⨾ failed_then _ _ c.in_default-put_value.ensures.failed c.in_default-put_value.ensures.writes

pub returns-in_default-put_value-2 : goal.returns-in_default-put_value-2
returns-in_default-put_value-2 g c =
    c.in-Some.ensures.writes ⨾ c.in-Some-put_value.ensures.writes
    ⨾ failed_then _ _ c.in_default-put_value-2.ensures.failed
    c.in_default-put_value-2.ensures.writes

pub returns : goal.returns
returns g c =
    c.in-Some.ensures.writes ⨾ c.in-Some-put_value.ensures.writes
    ⨾ serializes_last _ c.in-Some-put_value-2.ensures.writes
