use Rattle.std.proofs.Common.{arith, rules}
use Rattle.std.proofs.lemmas.Result.{err_from_is_err_and}
use Rattle.cbor4ii_examples.specs.Told.{untold_as}
use Rattle.cbor4ii_examples.proofs.Shapes.{not_one, no_pair, frames-next}
use Rattle.cbor4ii_examples.proofs.shape.+shapes.Goals as goal

pub shape_in-returns-in-len2-up : goal.shape_in-returns-in-len2-up
shape_in-returns-in-len2-up t c =
    not_one c.args.pairs.now (λ e. omega (arith, c.in-len2-up.len_at_least))

pub pair_in-returns-in-len1 : goal.pair_in-returns-in-len1
pair_in-returns-in-len1 t c =
    no_pair c.args.items.now (λ e. omega (arith, c.in-len1.len_below))

pub pair_in-returns-in-len3-up : goal.pair_in-returns-in-len3-up
pair_in-returns-in-len3-up t c =
    no_pair c.args.items.now (λ e. omega (arith, c.in-len3-up.len_at_least))

pub frame_in-loop-pair-preserved : goal.frame_in-loop-pair-preserved
frame_in-loop-pair-preserved t c = search (rules, frames-next)

pub frame_in-returns-in_err-frame : goal.frame_in-returns-in_err-frame
frame_in-returns-in_err-frame t c = search (rules, err_from_is_err_and, untold_as, frames-next)
