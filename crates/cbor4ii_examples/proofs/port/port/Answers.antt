use Rattle.std.proofs.Common.{◌≡◌, ◌∙◌, subst, sym}
use Rattle.std.specs.Prelude.{IfErr}
use Rattle.std.proofs.lemmas.Result.{err_from_is_err_and}
use Rattle.cbor4ii_rw.specs.declared.error.DecodeError.TheVariants.{OutOfMemory}
use Rattle.cbor4ii_rw.specs.declared.error.WholeError.TheVariants.{Decode}
use Rattle.cbor4ii_examples.proofs.port.port.Goals as goal

pub returns-in_err-value-clause-all : goal.returns-in_err-value-clause-all
returns-in_err-value-clause-all c v d =
    let handed = err_from_is_err_and c.from_residual.result c.from_residual.ensures.1 in
    subst (λ r. IfErr r (λ e. e ≡ Decode OutOfMemory)) (sym handed.1)
    (handed.2 ∙ c.in_err-value.ensures.all v d)
