use Rattle.std.proofs.Common.{◌≡◌, ◌+◌, ◌-◌, drop, take, ap, arith}
use Rattle.cbor4ii_items.proofs.FloatLeaf.{prefix_is_float}
use Rattle.cbor4ii_items.proofs.floats.float_in.Goals as goal

pub returns : goal.returns
returns c =
    let prefix = c.args.prefix.now in
    let count : 1 + c.args.bytes - 1 ≡ c.args.bytes = omega arith in (
      omega arith,
      rw c.bits_of.ensures.value
          (prefix_is_float c.args.marker c.args.bytes prefix _
          (ap (λ j. take j (drop 1 prefix)) count)
          (omega arith) c.if-prefix-marker.false (omega arith) c.bits_of.ensures.bytes),
    )
