use Rattle.std.proofs.Common.{rules}
use Rattle.cbor4ii_items.proofs.Leaves.{decodes_of_runs}
use Rattle.cbor4ii_items.proofs.BigLeaf.{u128_leaf}
use Rattle.cbor4ii_items.proofs.numbers.big.U128Decode.decode.Goals as goal

pub returns : goal.returns
returns g c = search (rules, decodes_of_runs, u128_leaf)
