use Rattle.std.proofs.{Common.{◌+◌, ◌<◌, ◌≤◌, ℕ, length, get_or, refl, arith, w8}}
use Rattle.std.proofs.{Math.Facts.Fits-lt-pow}
use Rattle.cbor4ii_tree.proofs.skip_calls.Leaves.{run_counts, run_two, run_short, short_inside}
use Rattle.cbor4ii_tree.proofs.ahead.more_of_run.Goals as goal

pub loop-left-preserved : goal.loop-left-preserved
loop-left-preserved c =
    let leaf = c.leaf_bytes-leaf.ensures in
    let next = c.leaf_bytes-next.ensures in
    record {
      few = omega (arith, c.loop-left.invariant.few);
      run =
          run_counts _ _ _ _ (omega (arith, c.loop-left-test.true, c.loop-left.invariant.few))
          (run_two _ _ _ _ _ (λ i. Fits-lt-pow {w = w8} (c.type_inv.shown i))
          (omega (arith, c.if-shown-size.true)) leaf.says leaf.most c.if-leaf-eq0.false next.says
          next.most c.if-next-eq0.false c.loop-left.invariant.run);
    }

pub loop-left-preserved-then-are_short : goal.loop-left-preserved-then-are_short
loop-left-preserved-then-are_short c =
    let shown = c.args.shown.now in
    let at = c.loop-left.size + (c.leaf_bytes-leaf.result + c.leaf_bytes-next.result) in
    let small : (i : ℕ) → get_or shown i 0 < 256 =
    λ i. Fits-lt-pow {w = w8} (c.type_inv.shown i) in
    let leaf = c.leaf_bytes-leaf.ensures in
    let next = c.leaf_bytes-next.ensures in
    let two = run_two _ _ _ _ _ small (omega (arith, c.if-shown-size.true)) leaf.says leaf.most
    c.if-leaf-eq0.false next.says next.most c.if-next-eq0.false c.loop-left.invariant.run in
    let within : at + 8 ≤ length shown =
    omega (arith, c.if-leaf-next-eq2.true, c.if-shown-size.true) in
    let short = short_inside 8 _ _ shown (omega arith) within (c.if-are_short.ensures refl) in
    record {
      few = omega (arith, c.loop-left.invariant.few);
      run =
          run_counts _ _ _ _ (omega (
            arith,
            c.loop-left-test.true,
            c.if-left-ge8.true,
            c.loop-left.invariant.few,
          )) (run_short 8 _ _ _ small within short two);
    }
