use Rattle.std.proofs.Common.{inl, refl, arith}
use Rattle.cbor4ii_items.specs.Laws.Calls.{ok}
use Rattle.cbor4ii_items.specs.Laws.Steps.{moves_err}
use Rattle.cbor4ii.specs.Variants.{form_format}
use Rattle.cbor4ii.proofs.Looking.{kept_next, saw}
use Rattle.cbor4ii.proofs.Contents.{entry_sound, name_sound, other_complete, other_rejects}
use Rattle.cbor4ii.proofs.Contents.{form_missing, form_ended}
use Rattle.cbor4ii.proofs.serde.de.enum_accessor.take_form.Goals as goal

pub returns-then-first-clause-decodes : goal.returns-then-first-clause-decodes
returns-then-first-clause-decodes g c =
    let d = c.in-Ok.ensures.decodes in
    ok form_format (kept_next d.moves d.sound (omega (arith, c.if-first.true)) c.advance.ensures)
    (λ some. cc) (entry_sound (saw d.moves d.sound) c.if-first.true c.advance.ensures)

pub returns-then-first-eq-STRING-clause-decodes : goal.returns-then-first-eq-STRING-clause-decodes
returns-then-first-eq-STRING-clause-decodes g c =
    let d = c.in-Ok.ensures.decodes in
    ok form_format d.moves.by (λ some. cc)
    (name_sound (saw d.moves d.sound) c.if-first-eq-STRING.true)

pub returns-else-first-eq-STRING-clause-decodes : goal.returns-else-first-eq-STRING-clause-decodes
returns-else-first-eq-STRING-clause-decodes g c =
    let d = c.in-Ok.ensures.decodes in
    let rejects = other_rejects refl (saw d.moves d.sound) c.if-first.false
    c.if-first-eq-STRING.false in
    record {
      moves = record { by = d.moves.by; depth = λ none. refl };
      progress = λ some. tt;
      memory = λ out. cc;
      sound = tt;
      complete = λ sure. other_complete (saw d.moves d.sound) c.if-first.false
          c.if-first-eq-STRING.false;
      rejects = λ sure. rejects;
      begins = rejects;
    }

pub returns-in-Err-clause-decodes : goal.returns-in-Err-clause-decodes
returns-in-Err-clause-decodes g c =
    let d = c.in-Err.ensures.decodes in
    record {
      moves = moves_err d.moves;
      progress = λ some. tt;
      memory = d.memory;
      sound = tt;
      complete = λ sure. form_missing (d.complete (inl refl));
      rejects = λ sure. form_ended d.begins;
      begins = form_ended d.begins;
    }
