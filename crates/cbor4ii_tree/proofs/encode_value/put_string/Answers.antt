use Rattle.std.proofs.Common.{inl}
use Rattle.cbor4ii_items.specs.Laws.Written.{writes_then, writes_err, in_two_pushes}
use Rattle.cbor4ii_tree.proofs.encode_value.put_string.Goals as goal

pub returns-in_err-put_head-clause-writes : goal.returns-in_err-put_head-clause-writes
returns-in_err-put_head-clause-writes g c =
    rw c.from_residual.ensures (writes_err _ c.in_err-put_head.ensures.writes.writes)

pub returns-clause-writes : goal.returns-clause-writes
returns-clause-writes g c =
    writes_then _ c.in_ok-put_head.ensures.writes.writes c.push.ensures.writes.writes

pub returns-in_err-put_head-clause-pushes : goal.returns-in_err-put_head-clause-pushes
returns-in_err-put_head-clause-pushes g c =
    rw c.from_residual.ensures (λ atomic. inl (c.in_err-put_head.ensures.writes.kept atomic))

pub returns-clause-pushes : goal.returns-clause-pushes
returns-clause-pushes g c =
    in_two_pushes _ c.in_ok-put_head.ensures.writes.writes c.push.ensures.writes
