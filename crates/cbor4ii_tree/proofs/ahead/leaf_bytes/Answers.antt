use Rattle.std.proofs.Common.{arith}
use Rattle.cbor4ii_tree.proofs.skip_calls.Leaves.{table_holds, most_leaf_bytes}
use Rattle.cbor4ii_tree.proofs.ahead.leaf_bytes.Goals as goal

pub returns-clause-says : goal.returns-clause-says
returns-clause-says c = table_holds c.args.first (omega arith)

pub returns-clause-most : goal.returns-clause-most
returns-clause-most c =
    omega (arith, table_holds c.args.first (omega arith), most_leaf_bytes c.args.first (omega arith))
