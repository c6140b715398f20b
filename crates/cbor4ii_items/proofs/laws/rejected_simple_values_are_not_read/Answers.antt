use Rattle.std.proofs.Common.{rules}
use Rattle.cbor4ii_items.specs.Laws.LeavesApart.{simple_apart, bool_apart, float_apart}
use Rattle.cbor4ii_items.specs.Laws.LeavesApart.{nothing_apart}
use Rattle.cbor4ii_items.proofs.laws.rejected_simple_values_are_not_read.Goals as goal

pub returns : goal.returns
returns c = search (rules, simple_apart, bool_apart, float_apart, nothing_apart)
