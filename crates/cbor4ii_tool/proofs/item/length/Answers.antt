use Rattle.std.proofs.Common.{◌-◌, refl}
use Rattle.cbor4ii_tool.proofs.Items.{length_fails, length_done, length_unwritten}
use Rattle.cbor4ii_tool.proofs.item.length.Goals as goal
use Rattle.cbor4ii_tool.proofs.item.length.Goals.{in-Ok, in-Err-write_line}

pub returns-in-Err-clause-fails : goal.returns-in-Err-clause-fails
returns-in-Err-clause-fails g c =
    rw c.of.ensures (length_fails c.in-Err.error _ _ _ c.in-Err.ensures.decodes.moves
    c.in-Err.ensures.decodes.memory c.in-Err.ensures.decodes.begins c.in-Err.ensures.all)

pub returns-clause-done : goal.returns-clause-done
returns-clause-done g c = elim c.match-write_line.branch [
  | in-Ok w ↦ rw w.result-is
      (length_done (c.taken.result - c.taken-before.result) c.taken-before.result c.taken.result _ _
      _ _ c.in_default.ensures.decodes.moves.by (c.in_default.ensures.decodes.progress refl)
      c.in_default.ensures.only
      c.taken-before.ensures.taken c.taken.ensures.taken refl w.in-Ok.ensures.appends
      w.in-Ok.ensures.counts)
  | in-Err-write_line w ↦ rw w.result-is tt
]

pub returns-clause-fails : goal.returns-clause-fails
returns-clause-fails g c = elim c.match-write_line.branch [
  | in-Ok w ↦ rw w.result-is tt
  | in-Err-write_line w ↦
      rw w.result-is (length_unwritten _ _ (g.W.Write.view c.args.writer.now)
      (g.W.Write.view c.write_line.new.writer) c.in_default.ensures.decodes.moves.by
      c.in_default.ensures.only w.in-Err-write_line.ensures.failed)
]
