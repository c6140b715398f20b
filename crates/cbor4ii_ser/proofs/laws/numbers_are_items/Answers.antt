use Rattle.std.proofs.Common.{◌^◌, arith}
use Rattle.cbor4ii_items.specs.Initial.{half, single, double}
use Rattle.cbor4ii_ser.specs.Laws.OneItem.{bool_is_item, unsigned_is_item, signed_is_item}
use Rattle.cbor4ii_ser.specs.Laws.OneItem.{unsigned_bytes_are_item, signed_bytes_are_item}
use Rattle.cbor4ii_ser.specs.Laws.OneItem.{float_is_item, within_greater}
use Rattle.cbor4ii_ser.proofs.laws.numbers_are_items.Goals as goal

pub returns : goal.returns
returns c = record {
  bool = bool_is_item;
  u8 = λ form v h. unsigned_is_item form v (omega (arith, h));
  u16 = λ form v h. unsigned_is_item form v (omega (arith, h));
  u32 = λ form v h. unsigned_is_item form v (omega (arith, h));
  u64 = unsigned_is_item;
  u128 = unsigned_bytes_are_item;
  i8 = λ form v h. signed_is_item form v (within_greater (2 ^ 7) (2 ^ 64) v (omega arith) h);
  i16 = λ form v h. signed_is_item form v (within_greater (2 ^ 15) (2 ^ 64) v (omega arith) h);
  i32 = λ form v h. signed_is_item form v (within_greater (2 ^ 31) (2 ^ 64) v (omega arith) h);
  i64 = λ form v h. signed_is_item form v (within_greater (2 ^ 63) (2 ^ 64) v (omega arith) h);
  i128 = signed_bytes_are_item;
  f16 = λ form v h. float_is_item form half v.0 h;
  f32 = λ form v h. float_is_item form single v.0 h;
  f64 = λ form v h. float_is_item form double v.0 h;
}
