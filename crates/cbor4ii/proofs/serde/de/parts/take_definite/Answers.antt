use Rattle.std.proofs.Common.{arith, refl, rules}
use Rattle.std.proofs.lemmas.Result.{err_from_is_err_and}
use Rattle.cbor4ii_items.specs.Laws.Calls.{out_of_memory, of_exact}
use Rattle.cbor4ii_items.specs.Laws.Running.{kept_alike}
use Rattle.cbor4ii_items.specs.Laws.SequenceParts.{no_part, count_more, count_done, count_err}
use Rattle.cbor4ii_items.specs.Laws.Steps.{kept_then}
use Rattle.cbor4ii_items.specs.Sequences.{count_of, in_list}
use Rattle.cbor4ii.proofs.serde.de.parts.take_definite.Goals as goal

pub returns-then-is_err : goal.returns-then-is_err
returns-then-is_err g c =
    of_exact (out_of_memory (count_of in_list g.Q.Sequence.part c.args.count) refl (kept_alike _))

pub returns-in_err-part : goal.returns-in_err-part
returns-in_err-part g c =
    let p = err_from_is_err_and c.from_residual.result c.from_residual.ensures.1 in
    rw (p.1, p.2) (count_err in_list g.Q.Sequence.part g.met.Q.Sequence.lawful c.loop-i.invariant
    c.loop-i-test.true c.in_err-part.ensures)

pub returns-in-Err : goal.returns-in-Err
returns-in-Err g c =
    of_exact (out_of_memory (count_of in_list g.Q.Sequence.part c.args.count) refl
    (kept_then c.loop-i.invariant.kept c.in_ok-part.ensures.moves.by))

pub loop-i-init : goal.loop-i-init
loop-i-init g c = search (rules, kept_alike, no_part)

pub loop-i-preserved : goal.loop-i-preserved
loop-i-preserved g c =
    count_more g.Q.Sequence.part c.loop-i.invariant c.in_ok-part.ensures.moves.by
    c.in_ok-part.ensures.sound (search rules)

pub returns : goal.returns
returns g c =
    of_exact (count_done in_list g.Q.Sequence.part c.loop-i.invariant
    (omega (arith, c.loop-i-test.false, c.loop-i.auto.i-end)))
