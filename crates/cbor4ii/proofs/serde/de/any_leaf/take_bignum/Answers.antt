use Rattle.std.proofs.Common.{refl, arith}
use Rattle.cbor4ii_items.specs.Laws.Calls.{ok}
use Rattle.cbor4ii.specs.AnyFormat.{any_leaf}
use Rattle.cbor4ii.specs.declared.serde.de.any_leaf.AnyLeaf.TheVariants.{Bignum}
use Rattle.cbor4ii.proofs.AnyAnswers.{bignum_sound, too_great, too_great_rejects, bignum_err}
use Rattle.cbor4ii.proofs.serde.de.any_leaf.take_bignum.Goals as goal

pub returns-then-number : goal.returns-then-number
returns-then-number g c =
    ok (any_leaf Bignum) c.in-Ok.ensures.moves.by c.in-Ok.ensures.progress
    (bignum_sound (omega (arith, c.if-number.true)) c.in-Ok.ensures.sound)

pub returns-else-number : goal.returns-else-number
returns-else-number g c =
    let rejects =
    too_great_rejects _ refl (omega (arith, c.if-number.false)) c.in-Ok.ensures.sound in
    record {
      moves = record { by = c.in-Ok.ensures.moves.by; depth = λ none. refl };
      progress = λ some. tt;
      memory = λ out. out;
      sound = tt;
      complete = λ sure. too_great (omega (arith, c.if-number.false)) c.in-Ok.ensures.sound;
      rejects = λ sure. rejects;
      begins = rejects;
    }

pub returns-in-Err : goal.returns-in-Err
returns-in-Err g c = bignum_err c.in-Err.ensures
