use Rattle.cbor4ii_rw.specs.Written.{stream_output, is_flushed}
use Rattle.cbor4ii_tool.proofs.Complete.{complete}
use Rattle.cbor4ii_tool.proofs.Finish.{finished_run, finished_ok, finished_memory, finished_blames}
use Rattle.cbor4ii_tool.proofs.Finish.{finished_hands}
use Rattle.cbor4ii_tool.proofs.run.run.Goals as goal

pub returns : goal.returns
returns g c =
    let items = c.convert_items-outcome.ensures in
    let outcome = c.convert_items-outcome.result in
    let answer = c.finish.result in
    let mid = stream_output g.W.Write.contents c.convert_items-outcome.new.writer in
    let holds = stream_output g.W.Write.contents c.finish.new.writer in
    let finishes = c.finish.ensures.finishes in
    let runs = finished_run c.args.command _ _ _ mid holds outcome answer _ _ _ _
    c.taken.ensures.taken c.finish.ensures.keeps items.failures items.memory finishes items.runs in
    record {
      runs = runs;
      complete = complete c.args.command _ _ _ _ answer runs;
      memory = finished_memory c.args.command outcome answer _ _ _ _ items.memory finishes;
      ended = finished_ok outcome answer _ _ _ _ _ items.ended finishes;
      left = items.leaves.rest;
      counted = items.leaves.counted;
      steps = items.leaves.budget;
      blames = finished_blames outcome answer _ _ _ _ _ mid holds c.taken.ensures.taken
          items.failures finishes;
      flushed = finished_hands outcome answer _ (is_flushed c.finish.new.writer) _ _ finishes;
    }
