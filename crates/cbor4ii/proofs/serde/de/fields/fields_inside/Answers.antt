use Rattle.std.proofs.Common.{rules}
use Rattle.std.specs.Prelude.{codes}
use Rattle.cbor4ii_items.specs.Laws.Calls.{of_exact}
use Rattle.cbor4ii_items.specs.Laws.SequenceHeads.{head_err, counts, opens}
use Rattle.cbor4ii_items.specs.Sequences.{count_of, indefinite_of, inside_of, in_list}
use Rattle.cbor4ii.specs.Answered.{typed_value_or_error}
use Rattle.cbor4ii.specs.FieldKey.{labels_by}
use Rattle.cbor4ii.specs.Fields.{all_changes}
use Rattle.cbor4ii.specs.Sequence.{five_small}
use Rattle.cbor4ii.specs.Structs.{field_pair}
use Rattle.cbor4ii.specs.Typed.{answer_of, not_exact}
use Rattle.cbor4ii.proofs.Filling.{alters_after}
use Rattle.cbor4ii.proofs.KeyMemory.{wants_as, wants_after}
use Rattle.cbor4ii.proofs.serde.de.fields.fields_inside.Goals as goal

pub returns-in-Ok-Some-clause-alters : goal.returns-in-Ok-Some-clause-alters
returns-in-Ok-Some-clause-alters g c =
    let fields = g.V.Places.fields (labels_by g.K.ReadKey.label c.args.keys.now) in
    let entry = field_pair g.K.ReadKey.key fields in
    alters_after all_changes fields.exact _ _ (count_of in_list entry _)
    (inside_of in_list (codes "map") 5 entry) _
    (answer_of (typed_value_or_error c.definite_fields.result _))
    (counts in_list (codes "map") 5 entry five_small
    c.in-Ok-Some.field-0-is c.in-Ok-Some.ensures) c.definite_fields.ensures.alters

pub returns-in-Ok-None-clause-alters : goal.returns-in-Ok-None-clause-alters
returns-in-Ok-None-clause-alters g c =
    let fields = g.V.Places.fields (labels_by g.K.ReadKey.label c.args.keys.now) in
    let entry = field_pair g.K.ReadKey.key fields in
    alters_after all_changes fields.exact _ _ (indefinite_of in_list (codes "map") entry)
    (inside_of in_list (codes "map") 5 entry) _
    (answer_of (typed_value_or_error c.indefinite_fields.result _))
    (opens in_list (codes "map") 5 entry five_small c.in-Ok-None.field-0-is c.in-Ok-None.ensures)
    c.indefinite_fields.ensures.alters

pub returns-in-Err-clause-alters : goal.returns-in-Err-clause-alters
returns-in-Err-clause-alters g c =
    rw c.leave.ensures (head_err in_list (codes "map") 5
    (field_pair g.K.ReadKey.key (g.V.Places.fields (labels_by g.K.ReadKey.label c.args.keys.now)))
    five_small (of_exact c.in-Err.ensures))

pub returns-in-Ok-Some-clause-memory : goal.returns-in-Ok-Some-clause-memory
returns-in-Ok-Some-clause-memory g c = search (rules, wants_after)

pub returns-in-Ok-None-clause-memory : goal.returns-in-Ok-None-clause-memory
returns-in-Ok-None-clause-memory g c = search (rules, wants_after)

pub returns-in-Err-clause-memory : goal.returns-in-Err-clause-memory
returns-in-Err-clause-memory g c = search (rules, wants_as, not_exact)
