use Rattle.cbor4ii_tree.proofs.raw_items.Keys.{items_end}
use Rattle.cbor4ii_tree.proofs.raw_parts.RawItemsIterator.next.Goals as goal

pub returns-in_err-left-clause-steps : goal.returns-in_err-left-clause-steps
returns-in_err-left-clause-steps c =
    items_end c.args.self.now _ c.left_after.ensures _ c.in_err-left.was c.from_residual.ensures
