use Rattle.std.proofs.Common.{inl, rules}
use Rattle.cbor4ii.specs.Laws.Backs.{some_read_back}
use Rattle.cbor4ii.proofs.serde.laws.wrapped_values_are_read_back.Goals as goal

pub returns : goal.returns
returns g c = search (rules, inl, some_read_back)
