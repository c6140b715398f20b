use Rattle.std.proofs.Common.{Ok, Err, Some, None, refl, ◌∙◌, rules}
use borrow.Author.Rules.{of_calls}
use denote.Param.Members.{was_Called}
use Rattle.cbor4ii_examples.specs.contracts.event.EventTyped.TheImpl.{ghosts}
use Rattle.cbor4ii_examples.proofs.LogRows.{answers, at_fault, at_first, at_last, next_reached}
use Rattle.cbor4ii_examples.proofs.log.replay.Goals as goal

pub loop-event-init : goal.loop-event-init
loop-event-init g c = search (rules, of_calls, at_first)

pub loop-event-preserved : goal.loop-event-preserved
loop-event-preserved g c =
    let d = answers (Ok (Some c.in-Ok-Some.event)) c.next_event-left.ensures.decodes (cc) in
    record {
      callable = search of_calls;
      budget = d.moves.by.budget ∙ c.loop-event.invariant.budget;
      reached = next_reached _ ghosts.promise.format c.loop-event.invariant.budget _
          c.args.handle c.loop-event.handle c.loop-event.invariant.reached c.in-Ok-Some.event
          c.handle.new.self d
          (was_Called g.F.FnMut _ _ _ _ _ _ c.handle.ensures.met refl refl);
    }

pub returns-in-Ok-None-clause-whole : goal.returns-in-Ok-None-clause-whole
returns-in-Ok-None-clause-whole g c =
    at_last _ ghosts.promise.format c.loop-event.invariant.budget _ c.args.handle
    c.loop-event.handle c.loop-event.invariant.reached
    (answers (Ok None) c.next_event-left.ensures.decodes (cc))

pub returns-in-Err-clause-stops : goal.returns-in-Err-clause-stops
returns-in-Err-clause-stops g c =
    at_fault _ ghosts.promise.format c.loop-event.invariant.budget _ c.args.handle
    c.loop-event.handle c.loop-event.invariant.reached refl c.taken-at.result c.in-Err.error
    c.taken-at.ensures.taken
    (answers (Err c.in-Err.error) c.next_event-left.ensures.decodes (cc))
