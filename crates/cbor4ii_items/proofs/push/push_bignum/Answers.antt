use Rattle.std.proofs.Common.{ap, ◌∙◌}
use Rattle.cbor4ii_items.specs.Magnitude.{without_leading_zeros}
use Rattle.cbor4ii_items.specs.Numbers.{definite_string}
use Rattle.cbor4ii_items.specs.Laws.Written.{writes_then, writes_as}
use Rattle.cbor4ii_items.proofs.push.push_bignum.Goals as goal

pub returns : goal.returns
returns g c = writes_then c.push_string.result c.in_ok-push_head.ensures.writes
    (writes_as c.push_string.result (ap (definite_string 2) (c.without_leading_zeros.ensures
    ∙ ap without_leading_zeros c.to_be_bytes.ensures)) c.push_string.ensures.writes)
