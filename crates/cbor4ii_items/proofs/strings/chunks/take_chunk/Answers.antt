use Rattle.cbor4ii_items.proofs.IndefiniteStrings.{chunk_runs}
use Rattle.cbor4ii_items.proofs.strings.chunks.take_chunk.Goals as goal

pub returns-clause-runs : goal.returns-clause-runs
returns-clause-runs g c =
    chunk_runs _ _ _ c.if-not-step_in.ensures.budget c.step_in.ensures.others
    c.take_chunk_inside-outcome.ensures.runs c.step_out.ensures.budget c.step_out.ensures.others
