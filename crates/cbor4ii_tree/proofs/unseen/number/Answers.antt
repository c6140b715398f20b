use Rattle.cbor4ii_items.specs.Laws.ReadingHeads.{one_more_byte}
use Rattle.std.proofs.Common.{◌≡◌, ◌+◌, ◌*◌, ◌<◌, ◌^◌, refl, ◌∙◌, arith, subst}
use Rattle.std.proofs.lemmas.Result.{err_from_is_err_and}
use Rattle.cbor4ii_tree.specs.Inner.HeadParts.{NoByte, TakesNumber}
use Rattle.cbor4ii_tree.proofs.skip_calls.Bytes.{number_none, number_more, number_cut}
use Rattle.cbor4ii_tree.proofs.skip_calls.{Bytes.small_number, Doing.{reached_start, reached_by}}
use Rattle.cbor4ii_tree.proofs.skip_calls.Doing.{reached_then, reached_as, does_ok, does_err}
use Rattle.cbor4ii_tree.proofs.unseen.number.Goals as goal

pub loop-i-init : goal.loop-i-init
loop-i-init g c = record {
  reached = reached_start _ _ number_none;
  small = omega arith;
  stays = λ t. refl;
}

pub returns-in_err-byte-clause-does : goal.returns-in_err-byte-clause-does
returns-in_err-byte-clause-does g c =
    let p = err_from_is_err_and c.from_residual.result c.from_residual.ensures.1 in
    rw (p.1, p.2) (does_err _ _ _ (NoByte c.args.name.now c.args.count) _
    (λ xs ys z rest. number_cut _ _ _ _ xs ys z rest c.loop-i-test.true c.requires)
    c.loop-i.invariant.reached c.in_err-byte.ensures.does)

pub overflow_mul-value : goal.overflow_mul-value
overflow_mul-value g c =
    let more = one_more_byte c.loop-i.value 0 c.loop-i.i c.loop-i.invariant.small (omega arith) in
    let h : c.loop-i.value * 256 + 0 < 2 ^ 64 =
    small_number _ (c.loop-i.i + 1) more (omega (arith, c.requires, c.loop-i-test.true)) in
    omega (arith, h)

pub overflow_add-value : goal.overflow_add-value
overflow_add-value g c =
    let more = one_more_byte c.loop-i.value c.in_ok-byte.byte c.loop-i.i c.loop-i.invariant.small
    c.in_ok-byte.ensures.byte in
    let h : c.loop-i.value * 256 + c.in_ok-byte.byte < 2 ^ 64 =
    small_number _ (c.loop-i.i + 1) more (omega (arith, c.requires, c.loop-i-test.true)) in
    omega (arith, h)

pub loop-i-preserved : goal.loop-i-preserved
loop-i-preserved g c = record {
  reached = reached_then _ _ _ (λ xs ys zs. number_more _ _ _ xs ys zs c.in_ok-byte.ensures.byte)
      c.loop-i.invariant.reached (reached_by c.in_ok-byte.ensures.does);
  small = one_more_byte _ _ _ c.loop-i.invariant.small c.in_ok-byte.ensures.byte;
  stays = λ t. c.in_ok-byte.ensures.stays t ∙ c.loop-i.invariant.stays t;
}

pub returns-clause-does : goal.returns-clause-does
returns-clause-does g c =
    let e : c.loop-i.i ≡ c.args.count = omega (arith, c.loop-i-test.false, c.loop-i.auto.i-end) in
    does_ok _ _ (reached_as _ _ (λ xs ys. subst (λ k. TakesNumber k xs c.loop-i.value ys) e)
    c.loop-i.invariant.reached)
