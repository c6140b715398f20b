use Rattle.std.proofs.Common.{rules}
use Rattle.cbor4ii_items.specs.Laws.NumbersBack.{argument_back, signed_back, u128_back, i128_back}
use Rattle.cbor4ii_items.proofs.laws.integers_are_read_back.Goals as goal

pub returns : goal.returns
returns c = search (rules, argument_back, signed_back, u128_back, i128_back)
