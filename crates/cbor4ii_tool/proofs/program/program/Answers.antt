use Rattle.std.proofs.Common.{Ok, sym, ap, ◌∙◌}
use Rattle.cbor4ii_rw.specs.Stream.{most_bytes, cut_known}
use Rattle.cbor4ii_tool.specs.Fault.{status_of}
use Rattle.cbor4ii_tool.specs.Program.{EndsIn}
use Rattle.cbor4ii_tool.proofs.Chosen.{named, is_named, not_rejected}
use Rattle.cbor4ii_tool.proofs.program.program.Goals.{in-Ok-Some, in-Err, in-Err-outcome}
use Rattle.cbor4ii_tool.proofs.program.program.Goals.{in_default}
use Rattle.cbor4ii_tool.proofs.program.program.Goals as goal

pub returns-clause-runs : goal.returns-clause-runs
returns-clause-runs g c = elim c.match-chosen.branch [
  | in-Ok-Some w ↦ is_named (λ command. EndsIn command
      (cut_known most_bytes (g.R.Read.remaining c.args.input))
      (g.W.Write.contents c.args.output) c.status.result) _ _ _ c.chosen.ensures.chooses
      (w.in-Ok-Some.is ∙ ap Ok w.in-Ok-Some.field-0-is) (
        _,
        c.status.ensures ∙ ap status_of ((elim c.match-outcome.branch [
          | in-Err-outcome v ↦ v.outcome-is ∙ sym v.in-Err-outcome.is
          | in_default v ↦ v.outcome-is
        ]) ∙ w.outcome-is),
        w.stream-outcome.ensures.runs,
      )
  | in-Err w ↦ not_rejected _ _ _ _ c.chosen.ensures.chooses w.in-Err.is
]

pub returns-clause-usage : goal.returns-clause-usage
returns-clause-usage g c = elim c.match-chosen.branch [
  | in-Ok-Some w ↦ named _ _ _ _ c.chosen.ensures.chooses
      (w.in-Ok-Some.is ∙ ap Ok w.in-Ok-Some.field-0-is)
  | in-Err w ↦ not_rejected _ _ _ _ c.chosen.ensures.chooses w.in-Err.is
]
