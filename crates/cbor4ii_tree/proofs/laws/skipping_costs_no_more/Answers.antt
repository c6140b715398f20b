use Rattle.cbor4ii_tree.proofs.encodings.Sizes.{skip_cost-le}
use Rattle.cbor4ii_tree.proofs.laws.skipping_costs_no_more.Goals as goal

pub returns : goal.returns
returns c = λ t plain. skip_cost-le t plain.1
