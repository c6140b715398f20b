use Rattle.std.proofs.Common.{arith}
use Rattle.std.specs.Prelude.{◌^◌, codes}
use Rattle.cbor4ii_items.specs.Cow.{cow_text, cow_bytes}
use Rattle.cbor4ii_items.specs.Floats.{float_format}
use Rattle.cbor4ii_items.specs.Strings.{text_content, bytes_content}
use Rattle.cbor4ii_items.specs.Laws.NumbersOnce.{argument_once, signed_once, u128_once, i128_once}
use Rattle.cbor4ii_items.specs.Laws.NumbersOnce.{bool_once, float_once, once_by}
use Rattle.cbor4ii_items.specs.Laws.StringErrors.{as_once, text_once}
use Rattle.cbor4ii.proofs.serde.laws.typed_leaves_are_rejected_once.Goals as goal

pub returns : goal.returns
returns c = record {
  u8 = argument_once (codes "u8") 0 1;
  u16 = argument_once (codes "u16") 0 2;
  u32 = argument_once (codes "u32") 0 4;
  u64 = argument_once (codes "u64") 0 8;
  u128 = u128_once;
  i8 = signed_once (codes "i8") (codes "+i8") (codes "-i8") 1 (2 ^ 7);
  i16 = signed_once (codes "i16") (codes "+i16") (codes "-i16") 2 (2 ^ 15);
  i32 = signed_once (codes "i32") (codes "+i32") (codes "-i32") 4 (2 ^ 31);
  i64 = signed_once (codes "i64") (codes "+i64") (codes "-i64") 8 (2 ^ 63);
  i128 = i128_once;
  bool = bool_once;
  f16 = once_by (λ v. v.0) (float_format (codes "f16") 0xf9 2) (float_once (codes "f16") 0xf9 2);
  f32 = once_by (λ v. v.0) (float_format (codes "f32") 0xfa 4) (float_once (codes "f32") 0xfa 4);
  f64 = once_by (λ v. v.0) (float_format (codes "f64") 0xfb 8) (float_once (codes "f64") 0xfb 8);
  text = text_once (codes "str") text_content;
  bytes = as_once (codes "bytes") 2 (omega arith) bytes_content;
  cow_text = text_once (codes "str") cow_text;
  cow_bytes = as_once (codes "bytes") 2 (omega arith) cow_bytes;
}
