use Rattle.std.proofs.Common.{refl, rules}
use Rattle.std.proofs.lemmas.Result.{err_from_is_err_and}
use Rattle.cbor4ii_items.specs.Laws.Steps.{moves_then, moves_err, kept_then}
use Rattle.cbor4ii.specs.Laws.Accessors.{kept_ok}
use Rattle.cbor4ii_examples.proofs.enumeration.read_tuple.Goals as goal

pub returns-in_err-flag-clause-moves : goal.returns-in_err-flag-clause-moves
returns-in_err-flag-clause-moves g c = search (rules, err_from_is_err_and, moves_then, moves_err)

pub returns-in-Some-Some-clause-moves : goal.returns-in-Some-Some-clause-moves
returns-in-Some-Some-clause-moves g c =
    kept_ok (kept_then c.in_ok-text.ensures.decodes.moves.by c.in_ok-flag.ensures.decodes.moves.by)

pub returns-in_default-clause-moves : goal.returns-in_default-clause-moves
returns-in_default-clause-moves g c = record {
  by = kept_then c.in_ok-text.ensures.decodes.moves.by c.in_ok-flag.ensures.decodes.moves.by;
  depth = λ none. refl;
}
