use Rattle.std.proofs.Common.{rules, ◌≡◌, ◌∷◌, [], length, length-append, ap, subst, true, arith}
use Rattle.std.proofs.lemmas.List.{take_rest}
use Rattle.cbor4ii_tree.specs.Inner.Leaf.{StandsAhead}
use Rattle.cbor4ii_tree.proofs.values.Sequences.{put_none, put_one, put_well, refused_growth}
use Rattle.cbor4ii_tree.proofs.run.put_run.Goals as goal

pub loop-alloc-init : goal.loop-alloc-init
loop-alloc-init g c = search (rules, put_none)

pub returns-then-is_none : goal.returns-then-is_none
returns-then-is_none g c =
    refused_growth _ c.loop-alloc.invariant.puts (subst (StandsAhead
    (g.A.Encodings.canonical ≡ true) c.in-Whole.value c.in-Whole.bytes) (take_rest c.args.shown.now
    c.loop-alloc.size) c.in-Whole.ensures)

pub loop-alloc-preserved : goal.loop-alloc-preserved
loop-alloc-preserved g c =
    let is = put_well _ c.is_none.ensures c.if-is_none.false c.put.ensures in
    let l = subst (StandsAhead (g.A.Encodings.canonical ≡ true) c.in-Whole.value c.in-Whole.bytes)
    (take_rest c.args.shown.now c.loop-alloc.size) c.in-Whole.ensures in
    record {
      puts =
          put_one _ c.loop-alloc.invariant.puts l is;
      few =
          omega (
            arith,
            c.lacks.ensures.less c.loop-alloc-test.true,
            ap length is,
            length-append (g.P.Parts.flat c.loop-alloc.parts) (c.in-Whole.value ∷ []),
          );
      none = λ e. absurd (omega (arith, e, l.some));
    }
