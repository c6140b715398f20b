use Rattle.std.proofs.Common.{arith, refl, rules}
use Rattle.cbor4ii_items.proofs.Passed.{decodes_passed}
use Rattle.cbor4ii_items.specs.Laws.Calls.{out_of_memory, of_exact, decodes_exactly}
use Rattle.cbor4ii_items.specs.Laws.SequenceParts.{count_more, count_done, count_err}
use Rattle.cbor4ii_items.specs.Laws.Steps.{kept_then}
use Rattle.cbor4ii_items.specs.Sequences.{count_format, in_vector}
use Rattle.cbor4ii_items.proofs.sequences.parts.take_definite.Goals as goal

pub returns-in_err-part : goal.returns-in_err-part
returns-in_err-part g c =
    decodes_passed _ c.from_residual.ensures.1 (decodes_exactly (count_err in_vector
    g.Q.Sequence.part (λ is. g.met.Q.Sequence.lawful) c.loop-i.invariant c.loop-i-test.true
    (of_exact c.in_err-part.ensures)))

pub returns-in-Err : goal.returns-in-Err
returns-in-Err g c =
    out_of_memory (count_format g.Q.Sequence.part c.args.count) refl
    (kept_then c.loop-i.invariant.kept c.in_ok-part.ensures.moves.by)

pub loop-i-preserved : goal.loop-i-preserved
loop-i-preserved g c =
    count_more g.Q.Sequence.part c.loop-i.invariant c.in_ok-part.ensures.moves.by
    c.in_ok-part.ensures.sound (search rules)

pub returns : goal.returns
returns g c =
    count_done in_vector g.Q.Sequence.part c.loop-i.invariant
    (omega (arith, c.loop-i-test.false, c.loop-i.auto.i-end))
