use Rattle.std.proofs.Common.{◌≡◌, ◌∷◌, ◌++◌, [], Ok, Err, Some, None, false, inl, inr, refl}
use Rattle.std.proofs.Common.{arith, ap, ◌∙◌, length, rules}
use Rattle.cbor4ii_examples.specs.Log.{says_cut}
use Rattle.cbor4ii_examples.specs.contracts.event.EventTyped.TheImpl.{ghosts}
use Rattle.cbor4ii_examples.proofs.LogRows.{answers, cut_short, faulty, grow_to, none_left}
use Rattle.cbor4ii_examples.proofs.LogRows.{same_known, stopped}
use Rattle.cbor4ii_examples.proofs.log.whole_events.Goals as goal

pub loop-event-preserved : goal.loop-event-preserved
loop-event-preserved c =
    let d = answers (Ok (Some c.in-Ok-Some.event)) c.next_event-next.ensures.decodes (cc) in
    let pushed : c.push.new.self.items ≡ c.loop-event.events.items ++ c.in-Ok-Some.event ∷ [] =
    grind (arith, c.push.ensures.items, c.is_err.ensures.negation, c.if-is_err.false) in
    let more = grow_to ghosts.promise.format c.args.part.now c.loop-event.reader.bytes.now refl
    c.loop-event.invariant.budget c.loop-event.events.items c.loop-event.invariant.row
    c.next_event-next.result.0.bytes.now refl c.in-Ok-Some.event c.push.new.self.items pushed
    d in
    let below = more.1 in
    record {
      row = more.0;
      within = omega (arith, below, c.loop-event.invariant.within);
      budget = d.moves.by.budget ∙ c.loop-event.invariant.budget;
    }

pub returns-then-is_err-clause-fault : goal.returns-then-is_err-clause-fault
returns-then-is_err-clause-fault c = search rules

pub returns-in-Ok-None-clause-batch : goal.returns-in-Ok-None-clause-batch
returns-in-Ok-None-clause-batch c = record {
  rest = c.loop-event.reader.bytes.now;
  row = c.loop-event.invariant.row;
  taken = omega (
    arith,
    ap length (same_known _ _ c.remaining.ensures.known),
    c.saturating_sub-taken.ensures,
    c.loop-event.invariant.within,
  );
  cut = inl (none_left ghosts.promise.format c.loop-event.reader.bytes.now refl
      (answers (Ok None) c.next_event-next.ensures.decodes (cc)));
}

pub returns-in-Err-clause-batch : goal.returns-in-Err-clause-batch
returns-in-Err-clause-batch c = search (rules, same_known, inr, cut_short, answers)

pub returns-in-Err-2-clause-fault : goal.returns-in-Err-2-clause-fault
returns-in-Err-2-clause-fault c =
    let other : says_cut c.in-Err-2.error ≡ false = cc in
    let stop = stopped ghosts.promise.format c.args.part.now c.loop-event.reader.bytes.now refl
    c.loop-event.invariant.budget c.loop-event.events.items c.loop-event.invariant.row
    c.saturating_sub-taken.result (omega (
      arith,
      ap length (same_known _ _ c.remaining.ensures.known),
      c.saturating_sub-taken.ensures,
      c.loop-event.invariant.within,
    )) refl c.in-Err-2.error
    (answers (Err c.in-Err-2.error) c.next_event-next.ensures.decodes (cc)) in
    faulty ghosts.promise.format c.args.part.now c.in-Err-2.error c.saturating_sub-taken.result
    stop.0 other
