use Rattle.cbor4ii_tree.proofs.{encodings.Sizes.size-of_tree, reading.Laws.encoded_is_item}
use Rattle.cbor4ii_tree.proofs.laws.value_is_no_larger_than_its_encoding.Goals as goal

pub returns-clause-size : goal.returns-clause-size
returns-clause-size c = size-of_tree

pub returns-clause-fits : goal.returns-clause-fits
returns-clause-fits c = encoded_is_item
