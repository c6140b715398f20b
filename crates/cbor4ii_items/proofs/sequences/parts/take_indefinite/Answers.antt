use Rattle.std.proofs.Common.{refl, sym, rules}
use Rattle.std.proofs.lemmas.Result.{err_from_is_err_and}
use Rattle.cbor4ii_items.specs.Laws.Calls.{out_of_memory, of_exact, decodes_exactly}
use Rattle.cbor4ii_items.specs.Laws.SequenceParts.{stands, indefinite_more, indefinite_done}
use Rattle.cbor4ii_items.specs.Laws.SequenceParts.{indefinite_err, place_end, place_nothing}
use Rattle.cbor4ii_items.specs.Laws.SequenceParts.{place_part}
use Rattle.cbor4ii_items.specs.Laws.Steps.{kept_then}
use Rattle.cbor4ii_items.specs.Sequences.{indefinite_format, in_vector}
use Rattle.cbor4ii_items.proofs.sequences.parts.take_indefinite.Goals as goal

pub returns-in_err-take_break : goal.returns-in_err-take_break
returns-in_err-take_break g c =
    let p = err_from_is_err_and c.from_residual.result c.from_residual.ensures.1 in
    let s = g.Q.Sequence.part in
    rw (p.1, p.2) (decodes_exactly (indefinite_err in_vector c.args.name.now s
    (λ is. g.met.Q.Sequence.lawful)
    c.loop-parts.invariant
    (place_end s c.args.name.now (λ is. g.met.Q.Sequence.lawful) c.in_err-take_break.ensures.runs
    c.in_err-take_break.ensures.memory)))

pub returns-then-not-is_part_never_empty : goal.returns-then-not-is_part_never_empty
returns-then-not-is_part_never_empty g c =
    let s = g.Q.Sequence.part in
    decodes_exactly (indefinite_err in_vector c.args.name.now s (λ is. g.met.Q.Sequence.lawful)
    c.loop-parts.invariant
    (place_nothing s c.args.name (sym c.if-not-is_part_never_empty.ensures)
    (stands c.if-not-branch.true c.in_ok-take_break.ensures.runs)))

pub returns-in_err-part : goal.returns-in_err-part
returns-in_err-part g c =
    let p = err_from_is_err_and c.from_residual-in_err-part.result
    c.from_residual-in_err-part.ensures.1 in
    let s = g.Q.Sequence.part in
    rw (p.1, p.2) (decodes_exactly (indefinite_err in_vector c.args.name.now s
    (λ is. g.met.Q.Sequence.lawful) c.loop-parts.invariant
    (place_part s c.args.name.now (sym c.if-not-is_part_never_empty.ensures)
    (stands c.if-not-branch.true c.in_ok-take_break.ensures.runs)
    (of_exact c.in_err-part.ensures))))

pub returns-in-Err : goal.returns-in-Err
returns-in-Err g c =
    out_of_memory (indefinite_format c.args.name.now g.Q.Sequence.part) refl
    (kept_then (kept_then c.loop-parts.invariant.kept c.in_ok-take_break.ensures.runs.moves.by)
    c.in_ok-part.ensures.moves.by)

pub loop-parts-preserved : goal.loop-parts-preserved
loop-parts-preserved g c =
    indefinite_more g.Q.Sequence.part (sym c.if-not-is_part_never_empty.ensures)
    c.loop-parts.invariant
    (stands c.if-not-branch.true c.in_ok-take_break.ensures.runs)
    c.in_ok-part.ensures.moves.by c.in_ok-part.ensures.sound (search rules)

pub returns : goal.returns
returns g c =
    indefinite_done in_vector c.args.name.now g.Q.Sequence.part c.if-not-branch.false
    c.loop-parts.invariant
    c.in_ok-take_break.ensures.runs
