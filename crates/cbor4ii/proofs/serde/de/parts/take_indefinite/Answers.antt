use Rattle.std.proofs.Common.{refl, inl, rules}
use Rattle.std.proofs.lemmas.Result.{err_from_is_err_and}
use Rattle.cbor4ii_items.specs.Laws.Calls.{out_of_memory, of_exact}
use Rattle.cbor4ii_items.specs.Laws.Running.{kept_alike}
use Rattle.cbor4ii_items.specs.Laws.SequenceParts.{no_part, stands, indefinite_more}
use Rattle.cbor4ii_items.specs.Laws.SequenceParts.{indefinite_done, indefinite_err}
use Rattle.cbor4ii_items.specs.Laws.SequenceParts.{place_end, place_part}
use Rattle.cbor4ii_items.specs.Laws.Steps.{kept_then}
use Rattle.cbor4ii_items.specs.Sequences.{indefinite_of, in_list}
use Rattle.cbor4ii.proofs.serde.de.parts.take_indefinite.Goals as goal

pub returns-in_err-takes_break : goal.returns-in_err-takes_break
returns-in_err-takes_break g c =
    let p = err_from_is_err_and c.from_residual.result c.from_residual.ensures.1 in
    rw (p.1, p.2) (indefinite_err in_list g.Q.Sequence.name g.Q.Sequence.part
    g.met.Q.Sequence.lawful
    c.loop-parts.invariant (place_end g.Q.Sequence.part g.Q.Sequence.name g.met.Q.Sequence.lawful
    c.in_err-takes_break.ensures.runs c.in_err-takes_break.ensures.memory))

pub returns-in_err-part : goal.returns-in_err-part
returns-in_err-part g c =
    let p = err_from_is_err_and c.from_residual-in_err-part.result
    c.from_residual-in_err-part.ensures.1 in
    rw (p.1, p.2) (indefinite_err in_list g.Q.Sequence.name g.Q.Sequence.part
    g.met.Q.Sequence.lawful
    c.loop-parts.invariant (place_part g.Q.Sequence.part g.Q.Sequence.name g.met.Q.Sequence.some
    (stands c.if-not-branch.true c.in_ok-takes_break.ensures.runs) c.in_err-part.ensures))

pub returns-in-Err : goal.returns-in-Err
returns-in-Err g c =
    of_exact (out_of_memory (indefinite_of in_list g.Q.Sequence.name g.Q.Sequence.part) refl
    (kept_then (kept_then c.loop-parts.invariant.kept c.in_ok-takes_break.ensures.runs.moves.by)
    c.in_ok-part.ensures.moves.by))

pub loop-parts-init : goal.loop-parts-init
loop-parts-init g c = search (rules, inl, no_part, kept_alike)

pub loop-parts-preserved : goal.loop-parts-preserved
loop-parts-preserved g c =
    indefinite_more g.Q.Sequence.part g.met.Q.Sequence.some c.loop-parts.invariant
    (stands c.if-not-branch.true c.in_ok-takes_break.ensures.runs)
    c.in_ok-part.ensures.moves.by c.in_ok-part.ensures.sound (search rules)

pub returns : goal.returns
returns g c =
    of_exact (indefinite_done in_list g.Q.Sequence.name g.Q.Sequence.part c.if-not-branch.false
    c.loop-parts.invariant c.in_ok-takes_break.ensures.runs)

pub loop-parts-smaller : goal.loop-parts-smaller
loop-parts-smaller g c = search rules
