use Rattle.std.proofs.Common.{rules}
use Rattle.cbor4ii_items.specs.Laws.LeavesApart.{argument_apart, negative_apart}
use Rattle.cbor4ii_items.specs.Laws.NumbersApart.{signed_apart, u128_apart, i128_apart}
use Rattle.cbor4ii_items.proofs.laws.rejected_numbers_are_not_read.Goals as goal

pub returns : goal.returns
returns c = search (rules, argument_apart, negative_apart, signed_apart, u128_apart, i128_apart)
