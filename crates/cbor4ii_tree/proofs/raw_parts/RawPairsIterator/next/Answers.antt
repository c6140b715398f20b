use Rattle.cbor4ii_tree.proofs.raw_items.Keys.{pairs_end}
use Rattle.cbor4ii_tree.proofs.raw_parts.RawPairsIterator.next.Goals as goal

pub returns-in_err-left-clause-steps : goal.returns-in_err-left-clause-steps
returns-in_err-left-clause-steps c =
    pairs_end c.args.self.now _ c.left_after.ensures _ c.in_err-left.was c.from_residual.ensures
