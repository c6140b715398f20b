use Rattle.std.proofs.Common.{rules}
use Rattle.std.specs.Prelude.{codes}
use Rattle.cbor4ii_items.specs.Laws.Calls.{of_exact}
use Rattle.cbor4ii_items.specs.Sequences.{inside_of, in_list}
use Rattle.cbor4ii.specs.Answered.{typed_value_or_error}
use Rattle.cbor4ii.specs.FieldKey.{labels_by}
use Rattle.cbor4ii.specs.Fields.{all_changes}
use Rattle.cbor4ii.specs.Structs.{field_pair}
use Rattle.cbor4ii.specs.Typed.{answer_of, not_exact}
use Rattle.cbor4ii.proofs.Filling.{alters_under}
use Rattle.cbor4ii.proofs.KeyMemory.{wants_after}
use Rattle.cbor4ii.proofs.Steps.{no_step_left}
use Rattle.cbor4ii.proofs.serde.de.fields.take_fields.Goals as goal

pub returns-then-not-step_in-clause-alters : goal.returns-then-not-step_in-clause-alters
returns-then-not-step_in-clause-alters g c = search (rules, of_exact, no_step_left)

pub returns-clause-alters : goal.returns-clause-alters
returns-clause-alters g c =
    let fields = g.V.Places.fields (labels_by g.K.ReadKey.label c.args.keys.now) in
    rw c.whole.ensures (alters_under all_changes fields.exact _ _
    (inside_of in_list (codes "map") 5 (field_pair g.K.ReadKey.key fields)) (codes "map")
    (answer_of (typed_value_or_error c.fields_inside-outcome.result _))
    c.if-not-step_in.ensures.budget
    c.step_in.ensures.others c.step_out.ensures.others c.step_out.ensures.budget
    c.fields_inside-outcome.ensures.alters)

pub returns-then-not-step_in-clause-memory : goal.returns-then-not-step_in-clause-memory
returns-then-not-step_in-clause-memory g c out = not_exact out

pub returns-clause-memory : goal.returns-clause-memory
returns-clause-memory g c = search (rules, wants_after)
