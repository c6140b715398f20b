use Rattle.std.proofs.Common.{◌≡◌, ◌⊎◌, refl, inl, inr, arith}
use Rattle.cbor4ii_items.specs.Laws.Steps.{kept_then, moves_then, moves_err}
use Rattle.cbor4ii_items.specs.Laws.Answering.{exact_kept}
use Rattle.cbor4ii.specs.Typed.{rejects_as_promised}
use Rattle.cbor4ii.proofs.Looking.{kept_next, saw, some_sound, some_complete, option_complete}
use Rattle.cbor4ii.proofs.Looking.{null_sound}
use Rattle.std.specs.Prelude.{codes}
use Rattle.cbor4ii.specs.Stepped.{RejectsStepped}
use Rattle.cbor4ii.proofs.Promised.{ok}
use Rattle.cbor4ii.proofs.Beginnings.{option_rejects, option_rejects_if, option_ended}
use Rattle.cbor4ii.proofs.serde.de.option.OptionDeserialize.deserialize.Goals.{then-first-via-then-first, then-first-via-else-first+then-first-2}
use Rattle.cbor4ii.proofs.serde.de.option.OptionDeserialize.deserialize.Goals as goal

pub returns-then-first : goal.returns-then-first
returns-then-first g c =
    let d = c.in-Ok.ensures.decodes in
    let null : (c.in-Ok.first ≡ 0xf6) ⊎ (c.in-Ok.first ≡ 0xf7) = elim c.then-first.branch [
      | then-first-via-then-first w ↦ inl w.if-first.true
      | then-first-via-else-first+then-first-2 w ↦ inr w.if-first-2.true
    ] in
    ok _ (kept_next d.moves d.sound (omega (arith, null)) c.advance.ensures)
    (omega (arith, c.advance.ensures.bound, d.moves.by.bound))
    (null_sound _ (saw d.moves d.sound) null c.advance.ensures)

pub returns-in-Ok-under_step : goal.returns-in-Ok-under_step
returns-in-Ok-under_step g c =
    let d = c.in-Ok.ensures.decodes in
    ok _ (kept_then d.moves.by c.in-Ok-under_step.ensures.moves.by)
    (omega (arith, c.in-Ok-under_step.ensures.progress refl, d.moves.by.bound))
    (some_sound _ (saw d.moves d.sound) c.if-first.false c.if-first-2.false
    c.in-Ok-under_step.ensures.sound)

pub returns-in-Err-under_step : goal.returns-in-Err-under_step
returns-in-Err-under_step g c =
    let d = c.in-Ok.ensures.decodes in
    let seen = saw d.moves d.sound in
    let e = c.in-Err-under_step.ensures in
    record {
      moves = moves_then d.moves.by (moves_err e.moves);
      progress = tt;
      memory = e.memory;
      sound = tt;
      complete = λ is exact. some_complete _ seen c.if-first.false c.if-first-2.false
          (λ xs known. e.complete is (exact_kept _ _ _ xs known d.moves.by exact));
      rejects = λ is exact. option_rejects_if _ seen c.if-first.false c.if-first-2.false
          (λ xs known. e.rejects is (exact_kept _ _ _ xs known d.moves.by exact));
      begins = λ _. option_rejects _ seen c.if-first.false c.if-first-2.false e.begins;
    }

pub returns-in-Err : goal.returns-in-Err
returns-in-Err g c = record {
  moves = moves_err c.in-Err.ensures.decodes.moves;
  progress = tt;
  memory = λ is. let no = c.in-Err.ensures.decodes.memory is in cc;
  sound = tt;
  complete = λ is exact. option_complete _ (c.in-Err.ensures.decodes.complete (inl refl));
  rejects = λ is exact. option_ended (RejectsStepped (codes "option")
      g.T.Typed.promise.format.rejects) c.in-Err.ensures.decodes.begins;
  begins = λ _. option_ended (RejectsStepped (codes "option")
      (rejects_as_promised g.T.Typed.promise))
      c.in-Err.ensures.decodes.begins;
}
