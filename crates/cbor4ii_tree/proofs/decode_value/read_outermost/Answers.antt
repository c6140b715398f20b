use Rattle.std.proofs.Common.{refl}
use Rattle.cbor4ii_tree.specs.Basis.InputError.{value_name}
use Rattle.cbor4ii_tree.proofs.{skip_calls.Doing.does_no_step, values.Heads.value_no_step}
use Rattle.cbor4ii_tree.proofs.values.Sequences.{not_wanted, gives_err, value_stepped}
use Rattle.cbor4ii_tree.proofs.decode_value.read_outermost.Goals as goal

pub returns : goal.returns
returns g c =
    value_stepped _ c.if-not-step_in.ensures.budget c.step_in.ensures.others
    c.step_out.ensures.budget c.step_out.ensures.others c.read_apart-outcome.ensures

pub returns-then-not-step_in : goal.returns-then-not-step_in
returns-then-not-step_in g c =
    rw c.leave_deep.ensures (gives_err not_wanted (does_no_step value_name _ _ refl refl (λ none xs.
    value_no_step g.A.Encodings.canonical _ none xs) c.if-not-step_in.ensures.budget
    c.step_in.ensures.others))
