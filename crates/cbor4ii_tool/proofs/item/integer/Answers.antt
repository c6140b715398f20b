use Rattle.std.proofs.Common.{rules}
use Rattle.cbor4ii_tool.specs.Steps.{Fails}
use Rattle.cbor4ii_tool.specs.declared.command.Command.TheVariants.{Ints}
use Rattle.cbor4ii_tool.proofs.Items.{integer_done, integer_fails, integer_unwritten}
use Rattle.cbor4ii_tool.proofs.item.integer.Goals as goal
use Rattle.cbor4ii_tool.proofs.item.integer.Goals.{in-Ok, in-Err}

pub returns-in_err-item-clause-fails : goal.returns-in_err-item-clause-fails
returns-in_err-item-clause-fails g c =
    let held = g.W.Write.view c.args.writer.now in
    let fails : Fails Ints c.in_err-item.field-0.0 (g.S.Source.view c.args.reader.now)
    (g.S.Source.view c.read.new.reader) held held =
    integer_fails _ _ _ held c.in_err-item.ensures.errs c.in_err-item.ensures.steady in
    search (fails, rules)

pub returns-clause-done : goal.returns-clause-done
returns-clause-done g c = elim c.match-write.branch [
  | in-Ok w ↦ rw w.result-is
      (integer_done c.in_ok-item.item _ _ _ _ c.in_ok-item.ensures.reads c.in_ok-item.ensures.kept
      w.in-Ok.ensures.writes.appends w.in-Ok.ensures.writes.counts)
  | in-Err w ↦ rw w.result-is tt
]

pub returns-clause-fails : goal.returns-clause-fails
returns-clause-fails g c = elim c.match-write.branch [
  | in-Ok w ↦ rw w.result-is tt
  | in-Err w ↦ rw w.result-is
      (integer_unwritten c.in_ok-item.item _ _ (g.W.Write.view c.args.writer.now)
      (g.W.Write.view c.write.new.writer) c.in_ok-item.ensures.reads w.in-Err.ensures.writes.failed)
]
