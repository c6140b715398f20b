use Rattle.std.proofs.Common.{rules}
use Rattle.cbor4ii_items.specs.Laws.Calls.{of_exact}
use Rattle.cbor4ii.specs.Tuples.{after_format}
use Rattle.cbor4ii.specs.Typed.{answer_of}
use Rattle.cbor4ii.specs.TypedParts.{three_of, typed_triple}
use Rattle.cbor4ii.proofs.Promised.{promised}
use Rattle.cbor4ii.proofs.Steps.{under_if, no_step_left}
use Rattle.cbor4ii.proofs.serde.de.tuples.Tuple3Deserialize.deserialize.Goals as goal

pub returns-then-not-step_in : goal.returns-then-not-step_in
returns-then-not-step_in g c = search (rules, promised, of_exact, no_step_left)

pub returns : goal.returns
returns g c =
    let inside = after_format 3 (three_of g.A.Typed.promise g.B.Typed.promise g.C.Typed.promise)
    in
    promised (typed_triple g.A.Typed.promise g.B.Typed.promise g.C.Typed.promise) (under_if inside _
    c.if-not-step_in.ensures.budget c.step_in.ensures.others c.step_out.ensures.others
    (answer_of c.triple_after-outcome.result) c.step_out.ensures.budget
    c.triple_after-outcome.ensures)
