use Rattle.cbor4ii_tree.proofs.skip_calls.Leaves.{short_leaf}
use Rattle.cbor4ii_tree.proofs.ahead.is_short.Goals as goal

pub returns : goal.returns
returns c = short_leaf c.args.first
