use Rattle.std.proofs.Common.{rules}
use Rattle.cbor4ii.specs.Laws.StructsOnce.{made_from_once}
use Rattle.cbor4ii.specs.Laws.TypedOnce.{no_element_once, element_before_once, both_true}
use Rattle.cbor4ii.specs.Laws.TypedOnce.{typed_elements_once}
use Rattle.cbor4ii.proofs.serde.laws.elements_are_rejected_once.Goals as goal

pub returns : goal.returns
returns g c = search (rules, no_element_once, element_before_once, both_true, made_from_once, typed_elements_once)
