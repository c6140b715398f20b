use Rattle.std.proofs.Common.{ap}
use Rattle.cbor4ii_tree.specs.Basis.Canonical.{canonical_encoding}
use Rattle.cbor4ii_examples.proofs.Sorting.{in_order_is_sorted, one_for_all}
use Rattle.cbor4ii_examples.proofs.sorted.sorted_encodings_are_equal.Goals as goal

pub returns-clause-one : goal.returns-clause-one
returns-clause-one c = λ v w same up. ap canonical_encoding (one_for_all v w same up)

pub returns-clause-stays : goal.returns-clause-stays
returns-clause-stays c = in_order_is_sorted
