use Rattle.std.proofs.Common.{refl, inl, subst, rules}
use Rattle.cbor4ii_items.specs.Laws.Steps.{moves_err}
use Rattle.cbor4ii.specs.Character.{NoCharacter}
use Rattle.cbor4ii.proofs.Characters.{char_sound, char_complete, char_rejects, other_moves}
use Rattle.cbor4ii.proofs.Characters.{other_complete, other_rejects}
use Rattle.cbor4ii.proofs.Promised.{ok}
use Rattle.cbor4ii.proofs.serde.de.deserializer.Deserializer.deserialize_char.Goals as goal

pub returns-in-Some : goal.returns-in-Some
returns-in-Some g c = search (rules, ok, char_sound)

pub returns-in-Ok : goal.returns-in-Ok
returns-in-Ok g c =
    let none = subst NoCharacter c.as_str.ensures.value (c.in-None.ensures.other refl) in
    record {
      moves = other_moves _ none c.in-Ok.ensures.moves;
      progress = tt;
      memory = λ no. refl;
      sound = tt;
      complete = λ is sure. other_complete _ none c.in-Ok.ensures.sound;
      rejects = λ is sure. other_rejects _ none refl c.in-Ok.ensures.sound;
      begins = λ is. other_rejects _ none refl c.in-Ok.ensures.sound;
    }

pub returns : goal.returns
returns g c = record {
  moves = moves_err c.in-Err.ensures.moves;
  progress = tt;
  memory = λ some. refl;
  sound = tt;
  complete = λ is sure. char_complete c.args.alloc (c.in-Err.ensures.complete (inl refl));
  rejects = λ is sure. char_rejects c.in-Err.ensures.begins;
  begins = λ is. char_rejects c.in-Err.ensures.begins;
}
