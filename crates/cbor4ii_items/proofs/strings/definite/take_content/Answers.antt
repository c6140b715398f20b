use Rattle.std.proofs.Common.{arith}
use Rattle.std.proofs.lemmas.Result.{err_from_is_err_and}
use Rattle.cbor4ii_items.specs.Laws.Running.{reaches_end}
use Rattle.cbor4ii_items.specs.Laws.Contents.{reaches_content, content_ends}
use Rattle.cbor4ii_items.proofs.strings.definite.take_content.Goals as goal

pub returns-in_err-missing : goal.returns-in_err-missing
returns-in_err-missing g c =
    let p = err_from_is_err_and c.from_residual.result c.from_residual.ensures.1 in
    rw (p.1, p.2) (reaches_end c.loop-missing.invariant c.in_err-missing.ensures.rejected)

pub loop-missing-preserved : goal.loop-missing-preserved
loop-missing-preserved g c =
    reaches_content _ c.loop-missing.invariant c.in_ok-missing.ensures.taken

pub returns : goal.returns
returns g c = content_ends _ (omega (arith, c.loop-missing-test.false)) c.loop-missing.invariant
