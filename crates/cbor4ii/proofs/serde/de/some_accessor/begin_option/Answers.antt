use Rattle.cbor4ii_items.specs.Laws.Steps.{moves_err}
use Rattle.std.proofs.Common.{◌≡◌, ◌⊎◌, refl, inl, inr, arith, rules}
use Rattle.cbor4ii.proofs.Looking.{kept_next, saw, option_complete}
use Rattle.cbor4ii.proofs.Presence.{null_coming, value_coming, no_step_complete, no_step_rejects}
use Rattle.cbor4ii.proofs.Presence.{presence_ended, no_null}
use Rattle.cbor4ii.proofs.serde.de.some_accessor.begin_option.Goals.{then-first-via-then-first, then-first-via-else-first+then-first-2}
use Rattle.cbor4ii.proofs.serde.de.some_accessor.begin_option.Goals as goal

pub returns-then-first-clause-opened : goal.returns-then-first-clause-opened
returns-then-first-clause-opened g c =
    let d = c.in-Ok.ensures.decodes in
    let null : (c.in-Ok.first ≡ 0xf6) ⊎ (c.in-Ok.first ≡ 0xf7) = elim c.then-first.branch [
      | then-first-via-then-first w ↦ inl w.if-first.true
      | then-first-via-else-first+then-first-2 w ↦ inr w.if-first-2.true
    ] in
    record {
      within = g.S.Source.view c.advance.new.self;
      kept = kept_next d.moves d.sound (omega (arith, null)) c.advance.ensures;
      coming = null_coming (saw d.moves d.sound) null c.advance.ensures;
      progress = λ e. omega (arith, c.advance.ensures.bound, d.moves.by.bound);
      held = refl;
    }

pub returns-else-not-step_in-clause-opened : goal.returns-else-not-step_in-clause-opened
returns-else-not-step_in-clause-opened g c = record {
  within = g.S.Source.view c.peek.new.reader;
  kept = c.in-Ok.ensures.decodes.moves.by;
  coming =
      value_coming (saw c.in-Ok.ensures.decodes.moves c.in-Ok.ensures.decodes.sound)
      c.if-first.false
      c.if-first-2.false;
  progress = λ e. absurd (no_null e);
  held = (c.if-not-step_in.ensures.budget, c.step_in.ensures.others);
}

pub returns-then-not-step_in-clause-rejected : goal.returns-then-not-step_in-clause-rejected
returns-then-not-step_in-clause-rejected g c =
    let seen = saw c.in-Ok.ensures.decodes.moves c.in-Ok.ensures.decodes.sound in
    let rejects = no_step_rejects refl seen c.if-first.false c.if-first-2.false
    c.if-not-step_in.ensures.budget c.step_in.ensures.others in
    record {
      moves = search rules;
      progress = λ some. tt;
      memory = λ out. cc;
      sound = tt;
      complete = λ sure. no_step_complete _ seen c.if-first.false c.if-first-2.false
          c.if-not-step_in.ensures.budget;
      rejects = λ sure. rejects;
      begins = rejects;
    }

pub returns-in-Err-clause-rejected : goal.returns-in-Err-clause-rejected
returns-in-Err-clause-rejected g c =
    let d = c.in-Err.ensures.decodes in
    record {
      moves = moves_err d.moves;
      progress = λ some. tt;
      memory = d.memory;
      sound = tt;
      complete = λ sure. option_complete _ (d.complete (inl refl));
      rejects = λ sure. presence_ended d.begins;
      begins = presence_ended d.begins;
    }
