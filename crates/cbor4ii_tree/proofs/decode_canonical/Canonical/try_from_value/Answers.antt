use Rattle.std.proofs.Common.{◌∙◌, ap, sym}
use Rattle.cbor4ii_tree.specs.{Basis.Canonical.with_bignums, Basis.View.view}
use Rattle.cbor4ii_tree.proofs.values.Encoding.{with_bignums-again}
use Rattle.cbor4ii_tree.proofs.decode_canonical.Canonical.try_from_value.Goals as goal

pub returns-clause-tagged : goal.returns-clause-tagged
returns-clause-tagged c =
    let is = c.in_ok-tag_bignums.ensures.tagged in
    ap with_bignums is ∙ with_bignums-again (view c.args.value) ∙ sym is
