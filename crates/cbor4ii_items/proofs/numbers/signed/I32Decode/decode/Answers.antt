use Rattle.std.proofs.Common.{arith, w32}
use Rattle.cbor4ii_items.proofs.ShownLeaves.{cast_fits}
use Rattle.cbor4ii_items.proofs.numbers.signed.I32Decode.decode.Goals as goal

pub overflow_cast-result : goal.overflow_cast-result
overflow_cast-result g c =
    cast_fits w32 c.in_ok-lone_signed.field-0 (omega arith) c.in_ok-lone_signed.ensures.range
