use Rattle.std.proofs.Common.{◌+◌, ◌*◌, ◌<◌, ◌^◌, slice_index_or, w8, subst, arith}
use Rattle.std.proofs.Math.Facts.{Fits-lt-pow}
use Rattle.std.proofs.Math.Seq.{take-length}
use Rattle.cbor4ii_items.specs.Head.{IsBytes}
use Rattle.cbor4ii_items.specs.Laws.Contents.{first_bytes}
use Rattle.cbor4ii_items.specs.Laws.ReadingHeads.{one_more_byte, wider}
use Rattle.cbor4ii_items.proofs.floats.number_of.Goals as goal

pub overflow_mul-number : goal.overflow_mul-number
overflow_mul-number c =
    let more = one_more_byte _ 0 _ c.loop-byte.invariant.small (omega arith) in
    let h : c.loop-byte.number * 256 + 0 < 256 ^ 8 =
    wider _ (c.loop-byte.byte-index + 1) 8 (omega arith) more in
    omega (arith, h)

pub overflow_add-number : goal.overflow_add-number
overflow_add-number c =
    let byte = slice_index_or c.args.bytes.now c.loop-byte.byte-index 0 in
    let more = one_more_byte _ byte _ c.loop-byte.invariant.small
    (Fits-lt-pow {w = w8} (c.type_inv.bytes c.loop-byte.byte-index)) in
    let h : c.loop-byte.number * 256 + byte < 256 ^ 8 =
    wider _ (c.loop-byte.byte-index + 1) 8 (omega arith) more in
    omega (arith, h)

pub returns-clause-bytes : goal.returns-clause-bytes
returns-clause-bytes c =
    subst IsBytes (take-length c.args.bytes.now)
    (first_bytes _ _ (λ i. Fits-lt-pow {w = w8} (c.type_inv.bytes i)))
