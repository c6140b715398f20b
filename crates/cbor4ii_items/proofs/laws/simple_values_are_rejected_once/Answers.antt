use Rattle.std.proofs.Common.{rules}
use Rattle.cbor4ii_items.specs.Laws.LeafErrors.{nothing_error}
use Rattle.cbor4ii_items.specs.Laws.NumbersOnce.{simple_once, bool_once, float_once, length_once}
use Rattle.cbor4ii_items.proofs.laws.simple_values_are_rejected_once.Goals as goal

pub returns : goal.returns
returns c = search (rules, simple_once, bool_once, float_once, nothing_error, length_once)
