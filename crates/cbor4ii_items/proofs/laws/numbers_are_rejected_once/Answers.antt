use Rattle.std.proofs.Common.{rules}
use Rattle.cbor4ii_items.specs.Laws.NumbersOnce.{argument_once, negative_once, signed_once}
use Rattle.cbor4ii_items.specs.Laws.NumbersOnce.{u128_once, i128_once}
use Rattle.cbor4ii_items.proofs.laws.numbers_are_rejected_once.Goals as goal

pub returns : goal.returns
returns c = search (rules, argument_once, negative_once, signed_once, u128_once, i128_once)
