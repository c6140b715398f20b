use Rattle.std.proofs.Common.{inl, refl, rules, arith}
use Rattle.cbor4ii_items.specs.Laws.Steps.{moves_err}
use Rattle.cbor4ii.proofs.Looking.{kept_next, saw}
use Rattle.cbor4ii.proofs.Units.{unit_sound, unit_other, unit_mismatch, unit_missing, unit_ended}
use Rattle.cbor4ii.proofs.Promised.{ok}
use Rattle.cbor4ii.proofs.serde.de.deserializer.Deserializer.deserialize_unit.Goals as goal

pub returns-then-first : goal.returns-then-first
returns-then-first g c =
    let d = c.in-Ok.ensures.decodes in
    ok _ (kept_next d.moves d.sound (omega (arith, c.if-first.true)) c.advance.ensures)
    (omega (arith, c.advance.ensures.bound, d.moves.by.bound))
    (unit_sound (saw d.moves d.sound) c.if-first.true c.advance.ensures)

pub returns-else-first : goal.returns-else-first
returns-else-first g c =
    let d = c.in-Ok.ensures.decodes in
    let seen = saw d.moves d.sound in
    record {
      moves = record {
        by = kept_next d.moves d.sound (search rules) c.advance.ensures;
        depth = λ e. refl;
      };
      progress = tt;
      memory = λ no. cc;
      sound = tt;
      complete = λ is sure. unit_other seen c.if-first.false;
      rejects = λ is sure. unit_mismatch seen c.if-first.false c.advance.ensures refl;
      begins = λ is. unit_mismatch seen c.if-first.false c.advance.ensures refl;
    }

pub returns-in-Err : goal.returns-in-Err
returns-in-Err g c = record {
  moves = moves_err c.in-Err.ensures.decodes.moves;
  progress = tt;
  memory = λ no. let never = c.in-Err.ensures.decodes.memory no in cc;
  sound = tt;
  complete = λ is sure. unit_missing (c.in-Err.ensures.decodes.complete (inl refl));
  rejects = λ is sure. unit_ended c.in-Err.ensures.decodes.begins;
  begins = λ is. unit_ended c.in-Err.ensures.decodes.begins;
}
