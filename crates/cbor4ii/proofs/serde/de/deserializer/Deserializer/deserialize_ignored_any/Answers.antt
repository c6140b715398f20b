use Rattle.std.proofs.Common.{refl}
use Rattle.cbor4ii_items.specs.Laws.Answering.{complete_as}
use Rattle.cbor4ii_items.specs.Laws.Steps.{moves_ok, moves_err}
use Rattle.cbor4ii_tree.specs.Calls.Ignored.{ReadsIgnored}
use Rattle.cbor4ii.specs.ItemRead.{ReadsSkipped}
use Rattle.cbor4ii.proofs.Forms.{sound_as}
use Rattle.cbor4ii.proofs.serde.de.deserializer.Deserializer.deserialize_ignored_any.Goals as goal

pub returns-in-Ok-clause-item : goal.returns-in-Ok-clause-item
returns-in-Ok-clause-item g c = record {
  moves = moves_ok c.in-Ok.ensures.decodes.moves;
  progress = c.in-Ok.ensures.decodes.progress;
  memory = tt;
  sound = sound_as ReadsIgnored (λ _. c.in-Ok.field-0) refl c.in-Ok.ensures.decodes.sound;
  complete = λ e. tt;
  rejects = λ e. tt;
  begins = tt;
}

pub returns-in-Err-clause-item : goal.returns-in-Err-clause-item
returns-in-Err-clause-item g c = record {
  moves = moves_err c.in-Err.ensures.decodes.moves;
  progress = λ e. tt;
  memory = c.in-Err.ensures.decodes.memory;
  sound = tt;
  complete = λ e. complete_as ReadsIgnored ReadsSkipped (λ xs budget none v. none record {})
      (c.in-Err.ensures.decodes.complete e);
  rejects = c.in-Err.ensures.decodes.rejects;
  begins = c.in-Err.ensures.decodes.begins;
}
