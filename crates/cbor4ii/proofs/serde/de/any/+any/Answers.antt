use Rattle.std.proofs.Common.{refl, arith, rules, Ok, Err}
use Rattle.std.specs.Prelude.{codes}
use Rattle.std.proofs.lemmas.Result.{err_from_is_err_and}
use Rattle.cbor4ii_items.specs.Laws.Calls.{in_memory}
use Rattle.cbor4ii.specs.AnyFormat.{any_leaf}
use Rattle.cbor4ii_items.specs.Laws.Calls.{part_then, out_of_memory}
use Rattle.cbor4ii_items.specs.Laws.Pairs.{pair_ok, key_err, value_err}
use Rattle.cbor4ii_items.specs.Laws.Calls.{of_exact, decodes_exactly}
use Rattle.cbor4ii_items.specs.Sequences.{in_vector}
use Rattle.cbor4ii_items.specs.Laws.SequenceParts.{count_more, count_done, count_err, stands}
use Rattle.cbor4ii_items.specs.Laws.SequenceParts.{indefinite_more, indefinite_done, indefinite_err}
use Rattle.cbor4ii_items.specs.Laws.SequenceParts.{place_end}
use Rattle.cbor4ii_items.specs.Laws.SequenceParts.{place_part}
use Rattle.cbor4ii_items.specs.Sequences.{count_format, indefinite_format}
use Rattle.cbor4ii.specs.AnyFormat.{any_format, any_inside, values_inside}
use Rattle.cbor4ii.specs.AnyFormat.{values_format, any_pair, pairs_inside, pairs_format}
use Rattle.cbor4ii.specs.declared.serde.de.any_leaf.AnyKind.TheVariants.{Leaf, Array, Map}
use Rattle.cbor4ii.specs.Any.{of_array, of_map}
use Rattle.cbor4ii.specs.Sequence.{four_small, five_small}
use Rattle.cbor4ii.specs.Typed.{answer_of}
use Rattle.cbor4ii.proofs.AnyAnswers.{any_lawful, pair_is_lawful, formed}
use Rattle.cbor4ii.proofs.AnyAnswers.{any_of, of_kind, of_other, of_end}
use Rattle.cbor4ii.proofs.Forms.{as_read}
use Rattle.cbor4ii.proofs.Looking.{saw}
use Rattle.cbor4ii_items.specs.Laws.SequenceHeads.{head_err, counts, opens}
use Rattle.cbor4ii.proofs.Steps.{no_step_left, under}
use Rattle.cbor4ii.proofs.serde.de.any.+any.Goals as goal

pub read_any-returns-then-not-step_in : goal.read_any-returns-then-not-step_in
read_any-returns-then-not-step_in g t c = search (rules, any_of, no_step_left)

pub read_any-returns : goal.read_any-returns
read_any-returns g t c =
    let r = answer_of c.any_inside-outcome.result in
    any_of r (under any_inside (codes "any") c.if-not-step_in.ensures.budget
    c.step_in.ensures.others c.step_out.ensures.others r c.step_out.ensures.budget
    c.any_inside-outcome.ensures)

-- ---- by the first byte

pub any_inside-returns-in-Err : goal.any_inside-returns-in-Err
any_inside-returns-in-Err g t c = of_end c.in-Err.ensures.decodes

pub any_inside-returns-in-Leaf : goal.any_inside-returns-in-Leaf
any_inside-returns-in-Leaf g t c =
    let d = c.in-Ok.ensures.decodes in
    of_kind (Leaf _) d.moves.by (saw d.moves d.sound) c.in-Leaf.ensures
    (answer_of c.take_leaf.result)
    (in_memory (any_leaf _) (answer_of c.take_leaf.result) c.take_leaf.ensures)

pub any_inside-returns-in-Ok-any_array : goal.any_inside-returns-in-Ok-any_array
any_inside-returns-in-Ok-any_array g t c =
    let d = c.in-Ok.ensures.decodes in
    of_kind Array d.moves.by (saw d.moves d.sound) c.in-Array.ensures (Ok _)
    (decodes_exactly
    (as_read (formed of_array values_format) (Ok _) (of_exact c.in-Ok-any_array.ensures)))

pub any_inside-returns-in-Err-any_array : goal.any_inside-returns-in-Err-any_array
any_inside-returns-in-Err-any_array g t c =
    let d = c.in-Ok.ensures.decodes in
    of_kind Array d.moves.by (saw d.moves d.sound) c.in-Array.ensures (Err _)
    (decodes_exactly
    (as_read (formed of_array values_format) (Err _) (of_exact c.in-Err-any_array.ensures)))

pub any_inside-returns-in-Ok-any_map : goal.any_inside-returns-in-Ok-any_map
any_inside-returns-in-Ok-any_map g t c =
    let d = c.in-Ok.ensures.decodes in
    of_kind Map d.moves.by (saw d.moves d.sound) c.in-Map.ensures (Ok _)
    (decodes_exactly
    (as_read (formed of_map pairs_format) (Ok _) (of_exact c.in-Ok-any_map.ensures)))

pub any_inside-returns-in-Err-any_map : goal.any_inside-returns-in-Err-any_map
any_inside-returns-in-Err-any_map g t c =
    let d = c.in-Ok.ensures.decodes in
    of_kind Map d.moves.by (saw d.moves d.sound) c.in-Map.ensures (Err _)
    (decodes_exactly
    (as_read (formed of_map pairs_format) (Err _) (of_exact c.in-Err-any_map.ensures)))

pub any_inside-returns-in-Other : goal.any_inside-returns-in-Other
any_inside-returns-in-Other g t c =
    let d = c.in-Ok.ensures.decodes in
    of_other _ d.moves.by refl (saw d.moves d.sound) c.in-Other.ensures

-- ---- arrays

pub any_array-returns-then-not-step_in : goal.any_array-returns-then-not-step_in
any_array-returns-then-not-step_in g t c = search (rules, no_step_left)

pub any_array-returns : goal.any_array-returns
any_array-returns g t c =
    under values_inside (codes "seq") c.if-not-step_in.ensures.budget c.step_in.ensures.others
    c.step_out.ensures.others (answer_of c.array_inside-outcome.result) c.step_out.ensures.budget
    c.array_inside-outcome.ensures

pub array_inside-returns-in-Err : goal.array_inside-returns-in-Err
array_inside-returns-in-Err g t c =
    decodes_exactly (head_err in_vector (codes "array") 4 any_format four_small
    (of_exact c.in-Err.ensures))

pub array_inside-returns-in-Ok-Some : goal.array_inside-returns-in-Ok-Some
array_inside-returns-in-Ok-Some g t c =
    decodes_exactly (part_then (count_format any_format _) values_inside
    (answer_of c.definite_values.result)
    (counts in_vector (codes "array") 4 any_format four_small c.in-Ok-Some.field-0-is
    c.in-Ok-Some.ensures)
    (of_exact c.definite_values.ensures))

pub array_inside-returns-in-Ok-None : goal.array_inside-returns-in-Ok-None
array_inside-returns-in-Ok-None g t c =
    decodes_exactly (part_then (indefinite_format (codes "array") any_format) values_inside
    (answer_of c.indefinite_values.result)
    (opens in_vector (codes "array") 4 any_format four_small c.in-Ok-None.field-0-is
    c.in-Ok-None.ensures)
    (of_exact c.indefinite_values.ensures))

pub definite_values-returns-then-is_err : goal.definite_values-returns-then-is_err
definite_values-returns-then-is_err g t c =
    out_of_memory (count_format any_format c.args.count) refl (search rules)

pub definite_values-returns-in_err-add_value : goal.definite_values-returns-in_err-add_value
definite_values-returns-in_err-add_value g t c =
    let p = err_from_is_err_and c.from_residual.result c.from_residual.ensures.1 in
    rw (p.1, p.2) (decodes_exactly (count_err in_vector any_format (λ is. any_lawful)
    c.loop-i.invariant
    c.loop-i-test.true
    (of_exact c.in_err-add_value.ensures)))

pub definite_values-loop-i-preserved : goal.definite_values-loop-i-preserved
definite_values-loop-i-preserved g t c =
    count_more any_format c.loop-i.invariant c.in_ok-add_value.ensures.read.moves.by
    c.in_ok-add_value.ensures.read.sound
    c.in_ok-add_value.ensures.added

pub definite_values-returns : goal.definite_values-returns
definite_values-returns g t c =
    count_done in_vector any_format c.loop-i.invariant
    (omega (arith, c.loop-i-test.false, c.loop-i.auto.i-end))

pub indefinite_values-returns-in_err-takes_break : goal.indefinite_values-returns-in_err-takes_break
indefinite_values-returns-in_err-takes_break g t c =
    let p = err_from_is_err_and c.from_residual.result c.from_residual.ensures.1 in
    rw (p.1, p.2) (decodes_exactly (indefinite_err in_vector (codes "array") any_format
    (λ is. any_lawful)
    c.loop-values.invariant
    (place_end any_format (codes "array") (λ is. any_lawful) c.in_err-takes_break.ensures.runs
    c.in_err-takes_break.ensures.memory)))

pub indefinite_values-returns-in_err-add_value : goal.indefinite_values-returns-in_err-add_value
indefinite_values-returns-in_err-add_value g t c =
    let p = err_from_is_err_and c.from_residual-in_err-add_value.result
    c.from_residual-in_err-add_value.ensures.1 in
    rw (p.1, p.2) (decodes_exactly (indefinite_err in_vector (codes "array") any_format
    (λ is. any_lawful)
    c.loop-values.invariant
    (place_part any_format (codes "array") refl
    (stands c.if-not-branch.true c.in_ok-takes_break.ensures.runs)
    (of_exact c.in_err-add_value.ensures))))

pub indefinite_values-loop-values-preserved : goal.indefinite_values-loop-values-preserved
indefinite_values-loop-values-preserved g t c =
    indefinite_more any_format refl c.loop-values.invariant
    (stands c.if-not-branch.true c.in_ok-takes_break.ensures.runs)
    c.in_ok-add_value.ensures.read.moves.by c.in_ok-add_value.ensures.read.sound
    c.in_ok-add_value.ensures.added

pub indefinite_values-loop-values-smaller : goal.indefinite_values-loop-values-smaller
indefinite_values-loop-values-smaller g t c = search rules

pub indefinite_values-returns : goal.indefinite_values-returns
indefinite_values-returns g t c =
    indefinite_done in_vector (codes "array") any_format c.if-not-branch.false
    c.loop-values.invariant
    c.in_ok-takes_break.ensures.runs

pub add_value-returns-in_err-value : goal.add_value-returns-in_err-value
add_value-returns-in_err-value g t c = search (rules, err_from_is_err_and)

pub add_value-returns-then-not-keep : goal.add_value-returns-then-not-keep
add_value-returns-then-not-keep g t c = out_of_memory any_format refl
    c.in_ok-value.ensures.moves.by

pub add_value-returns : goal.add_value-returns
add_value-returns g t c = search rules

-- ---- maps

pub any_map-returns-then-not-step_in : goal.any_map-returns-then-not-step_in
any_map-returns-then-not-step_in g t c = search (rules, no_step_left)

pub any_map-returns : goal.any_map-returns
any_map-returns g t c =
    under pairs_inside (codes "map") c.if-not-step_in.ensures.budget c.step_in.ensures.others
    c.step_out.ensures.others (answer_of c.map_inside-outcome.result) c.step_out.ensures.budget
    c.map_inside-outcome.ensures

pub map_inside-returns-in-Err : goal.map_inside-returns-in-Err
map_inside-returns-in-Err g t c =
    decodes_exactly (head_err in_vector (codes "map") 5 any_pair five_small
    (of_exact c.in-Err.ensures))

pub map_inside-returns-in-Ok-Some : goal.map_inside-returns-in-Ok-Some
map_inside-returns-in-Ok-Some g t c =
    decodes_exactly (part_then (count_format any_pair _) pairs_inside
    (answer_of c.definite_pairs.result)
    (counts in_vector (codes "map") 5 any_pair five_small c.in-Ok-Some.field-0-is
    c.in-Ok-Some.ensures)
    (of_exact c.definite_pairs.ensures))

pub map_inside-returns-in-Ok-None : goal.map_inside-returns-in-Ok-None
map_inside-returns-in-Ok-None g t c =
    decodes_exactly (part_then (indefinite_format (codes "map") any_pair) pairs_inside
    (answer_of c.indefinite_pairs.result)
    (opens in_vector (codes "map") 5 any_pair five_small c.in-Ok-None.field-0-is
    c.in-Ok-None.ensures)
    (of_exact c.indefinite_pairs.ensures))

pub definite_pairs-returns-then-is_err : goal.definite_pairs-returns-then-is_err
definite_pairs-returns-then-is_err g t c =
    out_of_memory (count_format any_pair c.args.count) refl (search rules)

pub definite_pairs-returns-in_err-add_pair : goal.definite_pairs-returns-in_err-add_pair
definite_pairs-returns-in_err-add_pair g t c =
    let p = err_from_is_err_and c.from_residual.result c.from_residual.ensures.1 in
    rw (p.1, p.2) (decodes_exactly (count_err in_vector any_pair (λ is. pair_is_lawful)
    c.loop-i.invariant
    c.loop-i-test.true
    (of_exact c.in_err-add_pair.ensures)))

pub definite_pairs-loop-i-preserved : goal.definite_pairs-loop-i-preserved
definite_pairs-loop-i-preserved g t c =
    count_more any_pair c.loop-i.invariant c.in_ok-add_pair.ensures.read.moves.by
    c.in_ok-add_pair.ensures.read.sound
    c.in_ok-add_pair.ensures.added

pub definite_pairs-returns : goal.definite_pairs-returns
definite_pairs-returns g t c =
    count_done in_vector any_pair c.loop-i.invariant
    (omega (arith, c.loop-i-test.false, c.loop-i.auto.i-end))

pub indefinite_pairs-returns-in_err-takes_break : goal.indefinite_pairs-returns-in_err-takes_break
indefinite_pairs-returns-in_err-takes_break g t c =
    let p = err_from_is_err_and c.from_residual.result c.from_residual.ensures.1 in
    rw (p.1, p.2) (decodes_exactly (indefinite_err in_vector (codes "map") any_pair
    (λ is. pair_is_lawful)
    c.loop-pairs.invariant
    (place_end any_pair (codes "map") (λ is. pair_is_lawful) c.in_err-takes_break.ensures.runs
    c.in_err-takes_break.ensures.memory)))

pub indefinite_pairs-returns-in_err-add_pair : goal.indefinite_pairs-returns-in_err-add_pair
indefinite_pairs-returns-in_err-add_pair g t c =
    let p = err_from_is_err_and c.from_residual-in_err-add_pair.result
    c.from_residual-in_err-add_pair.ensures.1 in
    rw (p.1, p.2) (decodes_exactly (indefinite_err in_vector (codes "map") any_pair
    (λ is. pair_is_lawful)
    c.loop-pairs.invariant
    (place_part any_pair (codes "map") refl
    (stands c.if-not-branch.true c.in_ok-takes_break.ensures.runs)
    (of_exact c.in_err-add_pair.ensures))))

pub indefinite_pairs-loop-pairs-preserved : goal.indefinite_pairs-loop-pairs-preserved
indefinite_pairs-loop-pairs-preserved g t c =
    indefinite_more any_pair refl c.loop-pairs.invariant
    (stands c.if-not-branch.true c.in_ok-takes_break.ensures.runs)
    c.in_ok-add_pair.ensures.read.moves.by c.in_ok-add_pair.ensures.read.sound
    c.in_ok-add_pair.ensures.added

pub indefinite_pairs-loop-pairs-smaller : goal.indefinite_pairs-loop-pairs-smaller
indefinite_pairs-loop-pairs-smaller g t c = search rules

pub indefinite_pairs-returns : goal.indefinite_pairs-returns
indefinite_pairs-returns g t c =
    indefinite_done in_vector (codes "map") any_pair c.if-not-branch.false c.loop-pairs.invariant
    c.in_ok-takes_break.ensures.runs

pub add_pair-returns-in_err-pair : goal.add_pair-returns-in_err-pair
add_pair-returns-in_err-pair g t c = search (rules, err_from_is_err_and)

pub add_pair-returns-then-not-keep : goal.add_pair-returns-then-not-keep
add_pair-returns-then-not-keep g t c = out_of_memory any_pair refl c.in_ok-pair.ensures.moves.by

pub add_pair-returns : goal.add_pair-returns
add_pair-returns g t c = record {
  part = _;
  read = c.in_ok-pair.ensures;
  added = search rules;
}

pub read_pair-returns-in_err-key : goal.read_pair-returns-in_err-key
read_pair-returns-in_err-key g t c =
    let p = err_from_is_err_and c.from_residual.result c.from_residual.ensures.1 in
    rw (p.1, p.2) (decodes_exactly (key_err any_format any_format (of_exact c.in_err-key.ensures)))

pub read_pair-returns-in-Ok : goal.read_pair-returns-in-Ok
read_pair-returns-in-Ok g t c =
    pair_ok any_format any_format c.in_ok-key.ensures c.in-Ok.ensures

pub read_pair-returns-in-Err : goal.read_pair-returns-in-Err
read_pair-returns-in-Err g t c =
    decodes_exactly (value_err any_format any_format (λ is. any_lawful) c.in_ok-key.ensures
    (of_exact c.in-Err.ensures))
