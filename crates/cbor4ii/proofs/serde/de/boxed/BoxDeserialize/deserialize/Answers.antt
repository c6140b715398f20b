use Rattle.std.proofs.Common.{refl}
use Rattle.cbor4ii_items.specs.Laws.Answering.{complete_as}
use Rattle.cbor4ii_items.specs.Laws.Steps.{moves_err}
use Rattle.cbor4ii.specs.TypedParts.{typed_box}
use Rattle.cbor4ii.proofs.Forms.{sound_as}
use Rattle.cbor4ii.proofs.Promised.{ok, out_of_memory}
use Rattle.cbor4ii.proofs.serde.de.boxed.BoxDeserialize.deserialize.Goals as goal

pub returns-in-Err-clause-promised : goal.returns-in-Err-clause-promised
returns-in-Err-clause-promised g c = record {
  moves = moves_err c.in-Err.ensures.moves;
  progress = tt;
  memory = λ out. refl;
  sound = tt;
  complete = λ is sure. complete_as g.T.Typed.promise.format.reads _
      (λ xs budget none b. none b.value) (c.in-Err.ensures.complete is sure);
  rejects = c.in-Err.ensures.rejects;
  begins = c.in-Err.ensures.begins;
}

pub returns-in-Ok-new-clause-promised : goal.returns-in-Ok-new-clause-promised
returns-in-Ok-new-clause-promised g c =
    ok (typed_box g.T.Typed.promise) c.in-Ok.ensures.moves.by c.in-Ok.ensures.progress
    (sound_as g.T.Typed.promise.format.reads (λ b. b.value) c.in-Ok-new.ensures.ok
    c.in-Ok.ensures.sound)

pub returns-clause-promised : goal.returns-clause-promised
returns-clause-promised g c =
    out_of_memory (typed_box g.T.Typed.promise) refl c.in-Ok.ensures.moves.by
