use Rattle.cbor4ii_rw.specs.Stream.{stream_view}
use Rattle.cbor4ii_tool.specs.Steps.{Ran, Saw}
use Rattle.cbor4ii_tool.proofs.run.convert_items.Given as goal

abbrev pub invariant-loop-is_end : goal.invariant-loop-is_end
invariant-loop-is_end g l = record {
  ran : Ran l.command (stream_view g.R.Read.remaining g.R.BufRead.consumable_len l.fn.reader)
      (stream_view g.R.Read.remaining g.R.BufRead.consumable_len l.reader)
      (g.W.Write.view l.fn.writer) (g.W.Write.view l.writer);
  saw : Saw l.seen (stream_view g.R.Read.remaining g.R.BufRead.consumable_len l.fn.reader)
      (stream_view g.R.Read.remaining g.R.BufRead.consumable_len l.reader);
}

abbrev pub decreases-loop-is_end : goal.decreases-loop-is_end
decreases-loop-is_end g l =
    (stream_view g.R.Read.remaining g.R.BufRead.consumable_len l.reader).bound
