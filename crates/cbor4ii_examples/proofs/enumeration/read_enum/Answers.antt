use Rattle.std.proofs.Common.{rules, true, false, refl, ◌∙◌}
use Rattle.std.proofs.lemmas.Result.{err_from_is_err_and}
use Rattle.cbor4ii_items.specs.Laws.Steps.{moves_then, moves_ok, moves_err}
use Rattle.cbor4ii.specs.Laws.Accessors.{kept_ok, moves_at}
use Rattle.cbor4ii_examples.proofs.Variants.{around_variant, variant_finished, around_content}
use Rattle.cbor4ii_examples.proofs.Variants.{other_form}
use Rattle.cbor4ii_examples.proofs.enumeration.read_enum.Goals as goal

pub returns-in_err-name-clause-moves : goal.returns-in_err-name-clause-moves
returns-in_err-name-clause-moves g c =
    search (rules, err_from_is_err_and, moves_at, around_variant, moves_err)

pub returns-in_err-unit_variant-in-Unit-clause-moves :
    goal.returns-in_err-unit_variant-in-Unit-clause-moves
returns-in_err-unit_variant-in-Unit-clause-moves g c =
    let p = err_from_is_err_and c.from_residual-in_err-unit_variant-in-Unit.result
    c.from_residual-in_err-unit_variant-in-Unit.ensures.1 in
    let h = c.in_err-unit_variant-in-Unit.ensures in
    rw (p.1, p.2) (moves_at (around_variant c.in_ok-variant.ensures.opened
    (moves_then c.in_ok-name.ensures.decodes.moves.by
    (other_form _ c.variant.new.self.content false h.right h.wrong)) h.closes) (search rules))

pub returns-in_err-newtype_variant-in-NewType-clause-moves :
    goal.returns-in_err-newtype_variant-in-NewType-clause-moves
returns-in_err-newtype_variant-in-NewType-clause-moves g c =
    let p = err_from_is_err_and c.from_residual-in_err-newtype_variant-in-NewType.result
    c.from_residual-in_err-newtype_variant-in-NewType.ensures.1 in
    let f = c.in_err-newtype_variant-in-NewType.ensures.finishes in
    rw (p.1, p.2) (moves_at (around_variant c.in_ok-variant.ensures.opened
    (moves_then c.in_ok-name.ensures.decodes.moves.by (moves_err f.moves)) f.closes) (search rules))

pub returns-in_ok-unit_variant-in-Unit-clause-moves :
    goal.returns-in_ok-unit_variant-in-Unit-clause-moves
returns-in_ok-unit_variant-in-Unit-clause-moves g c =
    moves_at (around_variant c.in_ok-variant.ensures.opened
    (kept_ok c.in_ok-name.ensures.decodes.moves.by)
    c.in_ok-unit_variant-in-Unit.ensures.closes) (search rules)

pub returns-in_ok-newtype_variant-in-NewType-clause-moves :
    goal.returns-in_ok-newtype_variant-in-NewType-clause-moves
returns-in_ok-newtype_variant-in-NewType-clause-moves g c =
    moves_at (moves_ok (variant_finished c.in_ok-variant.ensures.opened
    c.in_ok-name.ensures.decodes.moves.by c.in_ok-newtype_variant-in-NewType.ensures.finishes))
    (search rules)

pub returns-in_err-items-in-Tuple-clause-moves : goal.returns-in_err-items-in-Tuple-clause-moves
returns-in_err-items-in-Tuple-clause-moves g c =
    let p = err_from_is_err_and c.from_residual-in_err-items-in-Tuple.result
    c.from_residual-in_err-items-in-Tuple.ensures.1 in
    let f = rw c.in_err-items-in-Tuple.was at c.tuple_variant.follows.holds-at-none in
    rw (p.1, p.2) (moves_at (moves_err (variant_finished c.in_ok-variant.ensures.opened
    c.in_ok-name.ensures.decodes.moves.by f.0)) (search rules))

pub returns-in_ok-items-in-Tuple-clause-moves : goal.returns-in_ok-items-in-Tuple-clause-moves
returns-in_ok-items-in-Tuple-clause-moves g c =
    moves_at (variant_finished c.in_ok-variant.ensures.opened
    c.in_ok-name.ensures.decodes.moves.by (around_content c.in_ok-items-in-Tuple.ensures.opened
    c.read_tuple.ensures.moves
    (c.read_tuple.ensures.same_steps ∙ c.in_ok-items-in-Tuple.ensures.steps) c.drop-items.ensures))
    (search rules)

pub returns-in_err-content-in-Struct-clause-moves :
    goal.returns-in_err-content-in-Struct-clause-moves
returns-in_err-content-in-Struct-clause-moves g c =
    let p = err_from_is_err_and c.from_residual-in_err-content-in-Struct.result
    c.from_residual-in_err-content-in-Struct.ensures.1 in
    let h = c.in_err-content-in-Struct.ensures in
    rw (p.1, p.2) (moves_at (around_variant c.in_ok-variant.ensures.opened
    (moves_then c.in_ok-name.ensures.decodes.moves.by
    (other_form _ c.variant.new.self.content true h.right h.wrong))
    c.drop-variant-in_err-content-in-Struct.ensures) (search rules))

pub returns-in_ok-content-in-Struct-clause-moves : goal.returns-in_ok-content-in-Struct-clause-moves
returns-in_ok-content-in-Struct-clause-moves g c =
    moves_at (around_variant c.in_ok-variant.ensures.opened
    (moves_then c.in_ok-name.ensures.decodes.moves.by
    (rw c.in_ok-content-in-Struct.ensures.value at c.read_struct.ensures))
    c.drop-variant-then-str_eq-4.ensures) (search rules)

pub returns-in_default-clause-moves : goal.returns-in_default-clause-moves
returns-in_default-clause-moves g c =
    moves_at (around_variant c.in_ok-variant.ensures.opened
    (record { by = c.in_ok-name.ensures.decodes.moves.by; depth = λ none. refl })
    c.drop-variant-2.ensures) (search rules)
