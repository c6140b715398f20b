use Rattle.std.proofs.Common.{refl}
use Rattle.cbor4ii_tool.proofs.Items.{value_fails, value_done, value_unwritten}
use Rattle.cbor4ii_tool.proofs.item.value.Goals as goal

pub returns-in-Err-clause-fails : goal.returns-in-Err-clause-fails
returns-in-Err-clause-fails g c =
    rw c.of.ensures (value_fails c.in-Err.error _ _ _ c.in-Err.ensures.decodes.moves
    c.in-Err.ensures.decodes.begins c.in-Err.ensures.all)

pub returns-in-Ok-encode-clause-done : goal.returns-in-Ok-encode-clause-done
returns-in-Ok-encode-clause-done g c =
    value_done c.in-Ok.item _ _ _ _ c.in-Ok.ensures.decodes.moves.by
    (c.in-Ok.ensures.decodes.progress refl) c.in-Ok.ensures.only
    c.in-Ok-encode.ensures.writes.appends
    c.in-Ok-encode.ensures.writes.counts

pub returns-clause-fails : goal.returns-clause-fails
returns-clause-fails g c =
    value_unwritten c.in-Ok.item _ _ (g.W.Write.view c.args.writer.now)
    (g.W.Write.view c.encode.new.writer) c.in-Ok.ensures.decodes.moves.by c.in-Ok.ensures.only
    c.in-Err-encode.ensures.writes.failed
