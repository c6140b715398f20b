use Rattle.std.proofs.Common.{ap, ◌∙◌}
use Rattle.cbor4ii_tool.proofs.Buffers.{read_through, written_through, through_buffers, no_buffer}
use Rattle.cbor4ii_tool.proofs.program.stream.Goals as goal

pub returns-in_default-clause-runs : goal.returns-in_default-clause-runs
returns-in_default-clause-runs g c = no_buffer c.args.command _ (g.W.Write.contents c.args.output)

pub returns-clause-runs : goal.returns-clause-runs
returns-clause-runs g c =
    let opened = c.in-Ok-Ok in
    through_buffers c.args.command _ _ _ _ _ _ _ c.run.result c.new-3.ensures.known
    c.new-3.ensures.taken c.new-3.ensures.budget
    (read_through _ _ _ opened.ensures.capacity opened.ensures.empty
    ∙ ap g.R.Read.remaining opened.ensures.inner)
    (c.new-4.ensures.written ∙ (written_through _ _ opened.ensures'.empty
    ∙ ap g.W.Write.contents opened.ensures'.inner)) c.run.ensures.runs
