use Rattle.std.proofs.Common.{inl, inr, rules}
use Rattle.cbor4ii_items.specs.Laws.LeavesBack.{simple_back, bool_back, float_back}
use Rattle.cbor4ii_items.proofs.laws.simple_values_are_read_back.Goals as goal

pub returns : goal.returns
returns g c = search (rules, simple_back, bool_back, inl, inr, float_back)
