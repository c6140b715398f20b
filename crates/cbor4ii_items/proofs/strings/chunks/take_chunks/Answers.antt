use Rattle.std.proofs.Common.{refl}
use Rattle.std.proofs.lemmas.Result.{err_from_is_err_and}
use Rattle.cbor4ii_items.proofs.IndefiniteStrings.{indefinite_ended, indefinite_done}
use Rattle.cbor4ii_items.proofs.IndefiniteStrings.{indefinite_more, indefinite_rejected}
use Rattle.cbor4ii_items.proofs.strings.chunks.take_chunks.Goals as goal

pub returns-in_err-take_break : goal.returns-in_err-take_break
returns-in_err-take_break g c =
    let p = err_from_is_err_and c.from_residual.result c.from_residual.ensures.1 in
    rw (p.1, p.2) (indefinite_ended _ _ _ c.loop-content.invariant c.in_err-take_break.ensures.runs)

pub loop-content-preserved : goal.loop-content-preserved
loop-content-preserved g c =
    indefinite_more _ _ _ c.loop-content.invariant c.if-not-branch.true
    c.in_ok-take_break.ensures.runs
    refl c.in_ok-take_chunk.ensures.runs

pub returns-in_err-take_chunk : goal.returns-in_err-take_chunk
returns-in_err-take_chunk g c =
    let p = err_from_is_err_and c.from_residual-in_err-take_chunk.result
    c.from_residual-in_err-take_chunk.ensures.1 in
    rw (p.1, p.2) (indefinite_rejected _ _ _ c.loop-content.invariant c.if-not-branch.true
    c.in_ok-take_break.ensures.runs refl c.in_err-take_chunk.ensures.runs)

pub returns : goal.returns
returns g c =
    indefinite_done _ _ _ c.loop-content.invariant c.if-not-branch.false
    c.in_ok-take_break.ensures.runs
