use Rattle.std.proofs.Common.{refl, length, take, drop, [], ◌-◌, rules}
use Rattle.cbor4ii.specs.Answered.{typed_value_or_error}
use Rattle.cbor4ii.specs.FieldKey.{labels_by}
use Rattle.cbor4ii.specs.Structs.{unnamed_field}
use Rattle.cbor4ii.specs.Typed.{answer_of, not_exact}
use Rattle.cbor4ii.proofs.IfKnown.{on_some}
use Rattle.cbor4ii.proofs.Filling.{skips, field_put, field_below, at_first, at_none}
use Rattle.cbor4ii.proofs.Filling.{puts_moves, puts_progress, puts_memory}
use Rattle.cbor4ii.proofs.KeyMemory.{wants_as, wants_first, wants_below}
use Rattle.cbor4ii.proofs.Labels.{some_key, is_first_key, is_after_key}
use Rattle.cbor4ii.proofs.serde.de.fields.Tuple2Values.take.Goals as goal

pub returns-then-at-gt0-clause-alters : goal.returns-then-at-gt0-clause-alters
returns-then-at-gt0-clause-alters g c label which =
    let key = g.K.ReadKey.label in
    let keys = c.args.keys.now in
    let others = g.V.Places.fields in
    let place = g.P.Place.place in
    let p = g.P.Value.Typed.promise in
    let some = c.in-len1-up.len_at_least in
    let d = some_key keys some in
    let h = is_after_key key label keys c.args.at d some c.if-at-gt0.true which in
    at_first key place p others keys label _ _ _ _
    (answer_of (typed_value_or_error c.take.result _)) d some
    (field_below place _ p (others (labels_by key (take (length keys - 1) (drop 1 keys)))) _ _
    (answer_of (typed_value_or_error c.take.result _)) _ _ _ h.0 refl
    (c.take.ensures.alters label h.1))

pub returns-else-at-gt0-clause-alters : goal.returns-else-at-gt0-clause-alters
returns-else-at-gt0-clause-alters g c label which =
    let key = g.K.ReadKey.label in
    let keys = c.args.keys.now in
    let others = g.V.Places.fields in
    let place = g.P.Place.place in
    let p = g.P.Value.Typed.promise in
    let some = c.in-len1-up.len_at_least in
    let d = some_key keys some in
    let h = is_first_key key label keys c.args.at d some c.if-at-gt0.false which in
    at_first key place p others keys label _ _ _ _
    (answer_of (typed_value_or_error c.put_value.result _)) d some
    (field_put place _ p (others (labels_by key (take (length keys - 1) (drop 1 keys)))) _ _
    (answer_of (typed_value_or_error c.put_value.result _)) c.args.self.now _ h c.put_value.ensures)

pub returns-in-empty-clause-alters : goal.returns-in-empty-clause-alters
returns-in-empty-clause-alters g c label which =
    let others = g.V.Places.fields in
    let place = g.P.Place.place in
    let p = g.P.Value.Typed.promise in
    at_none g.K.ReadKey.label place p others c.args.keys.now label _ _ _ _
    (answer_of (typed_value_or_error c.skip_value.result _)) c.in-empty.len_below
    (skips (unnamed_field place p (others [])) label c.args.self.now _
    (answer_of (typed_value_or_error c.skip_value.result _)) refl refl refl
    c.skip_value.ensures)

pub returns-else-at-gt0-clause-moves : goal.returns-else-at-gt0-clause-moves
returns-else-at-gt0-clause-moves g c = search (rules, puts_moves)

pub returns-else-at-gt0-clause-progress : goal.returns-else-at-gt0-clause-progress
returns-else-at-gt0-clause-progress g c = search (rules, on_some, puts_progress)

pub returns-in-empty-clause-progress : goal.returns-in-empty-clause-progress
returns-in-empty-clause-progress g c = on_some _ c.skip_value.result _
    (c.skip_value.ensures.progress refl)

pub returns-then-at-gt0-clause-memory : goal.returns-then-at-gt0-clause-memory
returns-then-at-gt0-clause-memory g c = search (rules, wants_below, some_key)

pub returns-else-at-gt0-clause-memory : goal.returns-else-at-gt0-clause-memory
returns-else-at-gt0-clause-memory g c = search (rules, wants_first, some_key, puts_memory)

pub returns-in-empty-clause-memory : goal.returns-in-empty-clause-memory
returns-in-empty-clause-memory g c = search (rules, wants_as, not_exact)
