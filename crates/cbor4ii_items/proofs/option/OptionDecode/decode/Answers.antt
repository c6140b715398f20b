use Rattle.std.proofs.Common.{rules, refl}
use Rattle.cbor4ii_items.specs.Laws.Running.{kept_taken}
use Rattle.cbor4ii_items.proofs.Passed.{decodes_passed}
use Rattle.cbor4ii_items.proofs.Containers.{option_end, option_some, option_err}
use Rattle.cbor4ii_items.proofs.option.OptionDecode.decode.Goals as goal

pub returns-in_err-first : goal.returns-in_err-first
returns-in_err-first g c = search (rules, decodes_passed, option_end)

pub returns-in-Ok : goal.returns-in-Ok
returns-in-Ok g c =
    option_some g.T.Decodable.format c.in_ok-first.ensures.runs c.if-first.false
    c.if-first-2.false c.in-Ok.ensures

pub returns-in-Err : goal.returns-in-Err
returns-in-Err g c =
    option_err g.T.Decodable.format c.in_ok-first.ensures.runs c.if-first.false
    c.if-first-2.false c.in-Err.ensures

pub returns-then-first : goal.returns-then-first
returns-then-first g c = record {
  moves = record {
    by = kept_taken c.in_ok-first.ensures.runs c.in_ok-first.ensures.byte c.advance.ensures;
    depth = λ e. refl;
  };
  progress = λ _. search rules;
  memory = tt;
  sound = search rules;
  complete = λ exact. tt;
  rejects = λ exact. tt;
  begins = tt;
}
