use Rattle.std.proofs.Common.{◌≡◌, ◌-◌, Some}
use Rattle.cbor4ii_rw.specs.Input.{limit}
use Rattle.cbor4ii_rw.specs.Stream.{most_bytes, cut_known, stream_view}
use Rattle.cbor4ii_rw.specs.View.{IfKnown}
use Rattle.cbor4ii_examples.specs.contracts.event.EventTyped.TheImpl.{ghosts}
use Rattle.cbor4ii_examples.proofs.LogRows.{Reached}
use Rattle.cbor4ii_examples.proofs.log.replay.Given as goal

abbrev pub invariant-loop-event : goal.invariant-loop-event
invariant-loop-event g l = record {
  callable : goal.F-IsAlwaysCallable g l.handle;
  budget : (stream_view g.R.Read.remaining g.R.BufRead.consumable_len l.reader).budget
      ≡ Some limit;
  reached : IfKnown (cut_known most_bytes (g.R.Read.remaining l.fn.stream))
      (Reached (λ before event after. goal.F-step g before event tt after)
      ghosts.promise.format l.fn.handle l.handle
      (stream_view g.R.Read.remaining g.R.BufRead.consumable_len l.reader));
}

abbrev pub decreases-loop-event : goal.decreases-loop-event
decreases-loop-event g l = most_bytes - l.reader.tally.taken
