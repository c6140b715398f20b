use Rattle.std.proofs.Common.{refl}
use Rattle.cbor4ii_tool.proofs.Items.{canonical_fails, canonical_done, canonical_unwritten}
use Rattle.cbor4ii_tool.proofs.item.canonical.Goals as goal

pub returns-in-Err-clause-fails : goal.returns-in-Err-clause-fails
returns-in-Err-clause-fails g c =
    rw c.of.ensures (canonical_fails c.in-Err.error _ _ _ c.in-Err.ensures.decodes.moves
    c.in-Err.ensures.decodes.begins c.in-Err.ensures.all)

pub returns-in-Ok-encode-clause-done : goal.returns-in-Ok-encode-clause-done
returns-in-Ok-encode-clause-done g c =
    canonical_done c.in-Ok.item _ _ _ _ c.in-Ok.ensures.decodes.moves.by
    (c.in-Ok.ensures.decodes.progress refl) c.in-Ok.ensures.only
    c.in-Ok-encode.ensures.writes.appends
    c.in-Ok-encode.ensures.writes.counts

pub returns-clause-fails : goal.returns-clause-fails
returns-clause-fails g c =
    canonical_unwritten c.in-Ok.item _ _ (g.W.Write.view c.args.writer.now)
    (g.W.Write.view c.encode.new.writer) c.in-Ok.ensures.decodes.moves.by c.in-Ok.ensures.only
    c.in-Err-encode.ensures.writes.failed
