-- Two values, one after the other, of which either may not be exact.
use Rattle.std.proofs.Common.{Ok, Err, Bool, IsTrue}
use Rattle.std.specs.Prelude.{◌&&◌}
use Rattle.cbor4ii_rw.specs.View.{View}
use Rattle.cbor4ii_rw.specs.declared.error.DecodeError.{DecodeError}
use Rattle.cbor4ii_items.specs.Decoding.{Format, IsLawful, DecodesIf}
use Rattle.cbor4ii_items.specs.Laws.Calls.{of_exact, exact_less, exactly_ok}
use Rattle.cbor4ii_items.specs.Laws.Containers.{both}
use Rattle.cbor4ii_items.specs.Laws.Pairs.{pair_ok, key_err, value_err}
use Rattle.cbor4ii_items.specs.Sequences.{pair_format}

module _ {A B E : Type 0} {x : Bool} (first : Format A) (second : Format B) {a m : View} where
  pub two_ok : {y : Bool} {b : View} {v : A} {w : B} → DecodesIf {E = E} x first a m (Ok v)
      → DecodesIf {E = E} y second m b (Ok w)
      → DecodesIf {E = E} (x && y) (pair_format first second) a b (Ok (v, w))
  two_ok s t = of_exact (pair_ok first second (exactly_ok s) (exactly_ok t))

  pub first_err : (y : Bool) {e : DecodeError E} → DecodesIf x first a m (Err e)
      → DecodesIf (x && y) (pair_format first second) a m (Err e)
  first_err y s = key_err first second (exact_less (λ is. (both x y is).0) s)

  pub second_err : {y : Bool} {b : View} {v : A} {e : DecodeError E} → (IsTrue x → IsLawful first)
      → DecodesIf {E = E} x first a m (Ok v) → DecodesIf y second m b (Err e)
      → DecodesIf (x && y) (pair_format first second) a b (Err e)
  second_err {y = y} lawful s t =
      value_err first second (λ is. lawful (both x y is).0) (exactly_ok s)
      (exact_less (λ is. (both x y is).1) t)
