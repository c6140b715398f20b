use Rattle.std.proofs.{Common.{arith, w8}, Math.Facts.Fits-lt-pow}
use Rattle.cbor4ii_tree.proofs.skip_calls.Leaves.{leaf_at}
use Rattle.cbor4ii_tree.proofs.ahead.leaf_size.Goals as goal

pub returns : goal.returns
returns c =
    leaf_at c.args.at _ c.args.shown.now (omega arith) c.leaf_bytes-size.ensures.says (omega arith)
    (λ i. Fits-lt-pow {w = w8} (c.type_inv.shown i))
