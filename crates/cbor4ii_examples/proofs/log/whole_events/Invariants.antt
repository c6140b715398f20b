use Rattle.std.proofs.Common.{◌≡◌, ◌≤◌, length, Some}
use Rattle.cbor4ii_rw.specs.Input.{limit}
use Rattle.cbor4ii_rw.specs.Slice.{slice_view}
use Rattle.cbor4ii_examples.specs.Log.{IsSequenceOf}
use Rattle.cbor4ii_examples.specs.contracts.event.EventTyped.TheImpl.{ghosts}
use Rattle.cbor4ii_examples.proofs.log.whole_events.Given as goal

abbrev pub invariant-loop-event : goal.invariant-loop-event
invariant-loop-event l = record {
  row : IsSequenceOf ghosts.promise.format.reads l.part l.events.items l.reader.bytes.now;
  within : length l.reader.bytes.now ≤ length l.part;
  budget : (slice_view l.reader).budget ≡ Some limit;
}

abbrev pub decreases-loop-event : goal.decreases-loop-event
decreases-loop-event l = length l.reader.bytes.now
