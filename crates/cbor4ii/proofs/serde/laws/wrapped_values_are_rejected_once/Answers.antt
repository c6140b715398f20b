use Rattle.std.proofs.Common.{rules}
use Rattle.cbor4ii.specs.Laws.TypedOnce.{typed_box_once, typed_option_once, typed_vector_once}
use Rattle.cbor4ii.specs.Laws.TypedOnce.{typed_pair_once, typed_triple_once, typed_tagged_once}
use Rattle.cbor4ii.specs.Laws.TypedOnce.{both_true}
use Rattle.cbor4ii.proofs.serde.laws.wrapped_values_are_rejected_once.Goals as goal

pub returns : goal.returns
returns g c = search (rules, typed_box_once, typed_option_once, typed_vector_once, typed_pair_once, both_true, typed_triple_once, typed_tagged_once)
