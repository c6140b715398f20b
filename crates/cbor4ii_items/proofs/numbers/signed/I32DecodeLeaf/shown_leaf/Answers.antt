use Rattle.std.proofs.Common.{arith, w32, rules}
use Rattle.cbor4ii_items.proofs.ShownLeaves.{cast_fits, cast_is, shown_as}
use Rattle.cbor4ii_items.proofs.numbers.signed.I32DecodeLeaf.shown_leaf.Goals as goal

pub overflow_cast-result : goal.overflow_cast-result
overflow_cast-result c =
    cast_fits w32 c.in_ok-number.number (omega arith) c.in_ok-number.ensures.range

pub returns : goal.returns
returns c = search (rules, shown_as, cast_is, w32)
