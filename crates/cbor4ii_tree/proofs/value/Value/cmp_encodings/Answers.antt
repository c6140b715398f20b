use Rattle.cbor4ii_tree.proofs.encodings.Order.{compares_alone}
use Rattle.cbor4ii_tree.proofs.value.Value.cmp_encodings.Goals as goal

pub returns : goal.returns
returns c = compares_alone c.cmp_values.ensures
