use Rattle.std.proofs.Common.{rules, inl, inr, refl, sym, ap, subst, arith, ◌∙◌, ◌∷◌, [], false}
use Rattle.std.proofs.Common.{true, Vec, Global, Some}
use Rattle.cbor4ii_items.specs.{Laws.Running.kept_alike, Laws.Steps.kept_then}
use Rattle.cbor4ii_tree.specs.{Inner.Does.error_left, Inner.LeafRuns.pair_values}
use Rattle.cbor4ii_tree.specs.Inner.Valuing.{flat_values, ReadsUnder, RejectsOf}
use Rattle.cbor4ii_tree.specs.{Basis.InputError.value_name, Basis.Item.{IsItem, tag}}
use Rattle.cbor4ii_tree.specs.{Basis.View.view, declared.value.Value.{Tag, Value}}
use Rattle.cbor4ii_tree.proofs.skip_calls.Doing.{reached_by, does_ok, does_no_memory, does_no_step}
use Rattle.cbor4ii_tree.proofs.skip_calls.Doing.{refused, reached_as, still_rejected}
use Rattle.cbor4ii_tree.proofs.values.Heads.{peeks_next, after_next, next_first, value_no_step}
use Rattle.cbor4ii_tree.proofs.values.Heads.{major_arm, tag_does, tagged_ok}
use Rattle.cbor4ii_tree.proofs.{values.Encoding.view-Tag, values.InRange.{items_are, items_none}}
use Rattle.cbor4ii_tree.proofs.values.Sequences.{flat-push, ran, none_read, ReadEach, one_item}
use Rattle.cbor4ii_tree.proofs.values.Sequences.{none_too_many, run_rejects, stop_alone, both_there}
use Rattle.cbor4ii_tree.proofs.values.Sequences.{pairs_are, pairs_are_read, turn_unstepped}
use Rattle.cbor4ii_tree.proofs.values.Sequences.{turn_rejected, turn_ends, run_before, on_found}
use Rattle.cbor4ii_tree.proofs.values.Sequences.{break_taken, no_break_yet, no_byte_left, put_read}
use Rattle.cbor4ii_tree.proofs.values.Sequences.{value_stops, pair_stops, pair_read, value_rejected}
use Rattle.cbor4ii_tree.proofs.values.Sequences.{none_follow, parts_deep, made_of, gives_err}
use Rattle.cbor4ii_tree.proofs.values.Sequences.{gives_on, gives_as, value_stepped, second_stepped}
use Rattle.cbor4ii_tree.proofs.values.Sequences.{items_stepped, item_put, parts_give, look_gives}
use Rattle.cbor4ii_tree.proofs.values.Sequences.{no_want, as_found, as_left, parts_found}
use Rattle.cbor4ii_tree.proofs.values.Sequences.{asks_after, asks_as, asks_here, in_any, in_first}
use Rattle.cbor4ii_tree.proofs.values.Sequences.{in_further, in_next, in_string, in_tagged}
use Rattle.cbor4ii_tree.proofs.values.Sequences.{not_wanted, put_grows, turn_asks, value_is}
use Rattle.cbor4ii_tree.proofs.values.Sequences.{values_are}
use Rattle.cbor4ii_tree.proofs.decode_value.+read.Goals.{array_inside-in-Some, array_inside-in-None}
use Rattle.cbor4ii_tree.proofs.decode_value.+read.Goals.{map_inside-in-Some, map_inside-in-None}
use Rattle.cbor4ii_tree.proofs.decode_value.+read.Goals as goal

-- ---- an array or a map

pub read_array-returns : goal.read_array-returns
read_array-returns g t c =
    second_stepped _ c.if-not-step_in.ensures.budget c.step_in.ensures.others
    c.step_out.ensures.budget c.step_out.ensures.others _ _ c.array_inside-outcome.ensures

pub read_array-returns-then-not-step_in : goal.read_array-returns-then-not-step_in
read_array-returns-then-not-step_in g t c =
    rw c.leave_deep.ensures (gives_err not_wanted (λ before shows. after_next _ shows
    (ReadsUnder g.A.Encodings.canonical) (RejectsOf g.A.Encodings.canonical _)
    (parts_deep false _ refl
    c.if-not-step_in.ensures.budget c.step_in.ensures.others)))

pub array_inside-returns-in-Some-eq0 : goal.array_inside-returns-in-Some-eq0
array_inside-returns-in-Some-eq0 g t c =
    parts_give false _ c.in_ok-take_length.ensures.does c.in_ok-take_length.ensures.gains (Some 0)
    (c.in-Some-eq0.is ∙ ap Some c.in-Some-eq0.field-0-test) (items_none c.new.ensures.items) tt
    (none_follow _ (λ (v : Vec Value Global). v.items) _ c.new.ensures.items)

pub array_inside-returns : goal.array_inside-returns
array_inside-returns g t c =
    as_found (made_of false) c.match-branch-2.items c.match-branch-2.failure _ c.in_ok-items.was
    (elim c.match-branch-2.branch [
      | array_inside-in-Some w ↦ rw w.reader-is (rw w.failure-is (rw w.items-is
          (parts_found false _ c.in_ok-take_length.ensures.does c.in_ok-take_length.ensures.gains _
          w.in-Some.is _ _ w.definite_items-items.ensures.items (omega arith)
          w.definite_items-items.ensures.memory w.definite_items-items.ensures.does)))
      | array_inside-in-None w ↦ rw w.reader-is (rw w.failure-is (rw w.items-is
          (parts_found false _ c.in_ok-take_length.ensures.does c.in_ok-take_length.ensures.gains _
          w.in-None.is _ _ w.indefinite_items-items.ensures.items tt
          w.indefinite_items-items.ensures.memory w.indefinite_items-items.ensures.does)))
    ])

pub array_inside-returns-in_err-items : goal.array_inside-returns-in_err-items
array_inside-returns-in_err-items g t c =
    rw c.from_residual-in_err-items.ensures (as_left (made_of false) c.match-branch-2.items
    c.match-branch-2.failure c.in_err-items.was
    (elim c.match-branch-2.branch [
      | array_inside-in-Some w ↦ rw w.reader-is (rw w.failure-is (rw w.items-is
          (parts_found false _ c.in_ok-take_length.ensures.does c.in_ok-take_length.ensures.gains _
          w.in-Some.is _ _ w.definite_items-items.ensures.items (omega arith)
          w.definite_items-items.ensures.memory w.definite_items-items.ensures.does)))
      | array_inside-in-None w ↦ rw w.reader-is (rw w.failure-is (rw w.items-is
          (parts_found false _ c.in_ok-take_length.ensures.does c.in_ok-take_length.ensures.gains _
          w.in-None.is _ _ w.indefinite_items-items.ensures.items tt
          w.indefinite_items-items.ensures.memory w.indefinite_items-items.ensures.does)))
    ]))

pub array_inside-returns-in_err-take_length : goal.array_inside-returns-in_err-take_length
array_inside-returns-in_err-take_length g t c =
    rw c.from_residual.ensures (gives_err (λ want. absurd (c.in_err-take_length.ensures.memory
    want)) (λ before shows. refused (c.in_err-take_length.ensures.does before shows)))

pub read_map-returns : goal.read_map-returns
read_map-returns g t c =
    second_stepped _ c.if-not-step_in.ensures.budget c.step_in.ensures.others
    c.step_out.ensures.budget c.step_out.ensures.others _ _ c.map_inside-outcome.ensures

pub read_map-returns-then-not-step_in : goal.read_map-returns-then-not-step_in
read_map-returns-then-not-step_in g t c =
    rw c.leave_deep.ensures (gives_err not_wanted (λ before shows. after_next _ shows
    (ReadsUnder g.A.Encodings.canonical) (RejectsOf g.A.Encodings.canonical _)
    (parts_deep true _ refl
    c.if-not-step_in.ensures.budget c.step_in.ensures.others)))

pub map_inside-returns-in-Some-eq0 : goal.map_inside-returns-in-Some-eq0
map_inside-returns-in-Some-eq0 g t c =
    parts_give true _ c.in_ok-take_length.ensures.does c.in_ok-take_length.ensures.gains (Some 0)
    (c.in-Some-eq0.is ∙ ap Some c.in-Some-eq0.field-0-test)
    (items_none (ap flat_values c.new.ensures.items)) tt (none_follow _ (λ (v : Vec
    (Value × Value) Global). flat_values v.items) _ (ap flat_values c.new.ensures.items))

pub map_inside-returns : goal.map_inside-returns
map_inside-returns g t c =
    as_found (made_of true) c.match-branch-2.pairs c.match-branch-2.failure _ c.in_ok-pairs.was
    (elim c.match-branch-2.branch [
      | map_inside-in-Some w ↦ rw w.reader-is (rw w.failure-is (rw w.pairs-is
          (parts_found true _ c.in_ok-take_length.ensures.does c.in_ok-take_length.ensures.gains _
          w.in-Some.is _ _ w.definite_pairs-pairs.ensures.items (omega arith)
          w.definite_pairs-pairs.ensures.memory w.definite_pairs-pairs.ensures.does)))
      | map_inside-in-None w ↦ rw w.reader-is (rw w.failure-is (rw w.pairs-is
          (parts_found true _ c.in_ok-take_length.ensures.does c.in_ok-take_length.ensures.gains _
          w.in-None.is _ _ w.indefinite_pairs-pairs.ensures.items tt
          w.indefinite_pairs-pairs.ensures.memory w.indefinite_pairs-pairs.ensures.does)))
    ])

pub map_inside-returns-in_err-pairs : goal.map_inside-returns-in_err-pairs
map_inside-returns-in_err-pairs g t c =
    rw c.from_residual-in_err-pairs.ensures (as_left (made_of true) c.match-branch-2.pairs
    c.match-branch-2.failure c.in_err-pairs.was
    (elim c.match-branch-2.branch [
      | map_inside-in-Some w ↦ rw w.reader-is (rw w.failure-is (rw w.pairs-is
          (parts_found true _ c.in_ok-take_length.ensures.does c.in_ok-take_length.ensures.gains _
          w.in-Some.is _ _ w.definite_pairs-pairs.ensures.items (omega arith)
          w.definite_pairs-pairs.ensures.memory w.definite_pairs-pairs.ensures.does)))
      | map_inside-in-None w ↦ rw w.reader-is (rw w.failure-is (rw w.pairs-is
          (parts_found true _ c.in_ok-take_length.ensures.does c.in_ok-take_length.ensures.gains _
          w.in-None.is _ _ w.indefinite_pairs-pairs.ensures.items tt
          w.indefinite_pairs-pairs.ensures.memory w.indefinite_pairs-pairs.ensures.does)))
    ]))

pub map_inside-returns-in_err-take_length : goal.map_inside-returns-in_err-take_length
map_inside-returns-in_err-take_length g t c =
    rw c.from_residual.ensures (gives_err (λ want. absurd (c.in_err-take_length.ensures.memory
    want)) (λ before shows. refused (c.in_err-take_length.ensures.does before shows)))

pub read_next-returns-in-4 : goal.read_next-returns-in-4
read_next-returns-in-4 g t c =
    gives_as (λ h. h) (λ d before shows. major_arm _ _ (peeks_next _ shows) _ c.in-4.is (d before
    shows)) c.read_array.ensures

pub read_next-returns-in-5 : goal.read_next-returns-in-5
read_next-returns-in-5 g t c =
    gives_as (λ h. h) (λ d before shows. major_arm _ _ (peeks_next _ shows) _ c.in-5.is (d before
    shows)) c.read_map.ensures

pub read_next-returns-in-6 : goal.read_next-returns-in-6
read_next-returns-in-6 g t c =
    gives_as (λ h. h) (λ d before shows. major_arm _ _ (peeks_next _ shows) _ c.in-6.is (d before
    shows)) c.read_tag.ensures

pub read_tag-returns-in_err-number : goal.read_tag-returns-in_err-number
read_tag-returns-in_err-number g t c =
    rw c.from_residual.ensures (gives_err (λ want. absurd (c.in_err-number.ensures.memory want))
    (λ before shows. refused (c.in_err-number.ensures.does before shows)))

pub read_tag-returns : goal.read_tag-returns
read_tag-returns g t c =
    gives_on (λ h before shows. asks_after (λ xs us ys. in_tagged _ c.in_ok-number.number xs us ys)
    (reached_by (c.in_ok-number.ensures.does before shows)) h) (λ d before shows. tag_does _ _
    (reached_by (c.in_ok-number.ensures.does before shows)) d)
    (omega (arith, c.in_ok-number.ensures.gains))
    (omega arith) c.read_tagged.ensures

pub read_inside-returns-in-Begins : goal.read_inside-returns-in-Begins
read_inside-returns-in-Begins g t c =
    look_gives _ _ _ c.in-Begins.is c.in_ok-value.ensures c.read_next.ensures

pub indefinite_items-loop-items-init : goal.indefinite_items-loop-items-init
indefinite_items-loop-items-init g t c = search (rules, none_read, items_none)

pub indefinite_items-loop-items-preserved : goal.indefinite_items-loop-items-preserved
indefinite_items-loop-items-preserved g t c = record {
  reached =
      put_read _ _ (c.in_ok-value.value ∷ []) c.in_ok-keep.ensures.kept (no_break_yet _ _
      c.loop-items.invariant.reached c.is_break.ensures.decodes c.in_ok-part.ensures
      c.if-not-branch.true) (reached_as _ _ (λ xs ys h. one_item _ _ xs _ ys h) (reached_by
      c.in_ok-value.ensures.does));
  items =
      items_are _ _ (c.in_ok-value.value ∷ []) c.in_ok-keep.ensures.kept
      c.loop-items.invariant.items (c.in_ok-value.ensures.ranged, tt);
}

pub indefinite_items-returns-clause-does : goal.indefinite_items-returns-clause-does
indefinite_items-returns-clause-does g t c =
    does_ok _ _ (break_taken _ _ c.loop-items.invariant.reached c.is_break.ensures.decodes
    c.in_ok-part.ensures c.if-not-branch.false)

pub indefinite_items-returns-in_err-value : goal.indefinite_items-returns-in_err-value
indefinite_items-returns-in_err-value g t c =
    let far = no_break_yet _ _ c.loop-items.invariant.reached c.is_break.ensures.decodes
    c.in_ok-part.ensures c.if-not-branch.true in
    rw c.from_residual-in_err-value.ensures (record {
      does = value_stops _ _ _ far c.in_err-value.ensures.does;
      memory = λ want. asks_after (λ xs us ys h s. in_next _ 1 xs us ys (values_are _ _ _ xs us h.0)
          s) far (c.in_err-value.ensures.memory want);
      items = tt;
    })

pub indefinite_items-returns-in_err-keep : goal.indefinite_items-returns-in_err-keep
indefinite_items-returns-in_err-keep g t c =
    let far = no_break_yet _ _ c.loop-items.invariant.reached c.is_break.ensures.decodes
    c.in_ok-part.ensures c.if-not-branch.true in
    rw c.from_residual-in_err-keep.ensures (record {
      does = does_no_memory _ _ (ap error_left c.in_err-keep.ensures.memory)
          (kept_then far.kept c.in_ok-value.ensures.does.moves.by);
      memory = λ want. put_grows _ _ (c.in_ok-value.value ∷ []) (omega arith) far
          (reached_as _ _ (λ xs ys h. one_item _ _ xs _ ys h) (reached_by
          c.in_ok-value.ensures.does));
      items = tt;
    })

pub indefinite_pairs-loop-pairs-init : goal.indefinite_pairs-loop-pairs-init
indefinite_pairs-loop-pairs-init g t c = record {
  reached = none_read _ _ _ (ap flat_values c.new-pairs.ensures.items);
  items = items_none (ap flat_values c.new-pairs.ensures.items);
}

pub indefinite_pairs-loop-pairs-preserved : goal.indefinite_pairs-loop-pairs-preserved
indefinite_pairs-loop-pairs-preserved g t c =
    let item_pair = c.in_ok-pair.pair in
    let pairs = c.loop-pairs.pairs.items in
    let kept = ap flat_values c.in_ok-keep.ensures.kept ∙ flat-push pairs item_pair in
    record {
      reached =
          put_read _ _ (item_pair.0 ∷ item_pair.1 ∷ []) kept (no_break_yet _ _
          c.loop-pairs.invariant.reached c.is_break.ensures.decodes c.in_ok-part.ensures
          c.if-not-branch.true) (reached_by c.in_ok-pair.ensures.does);
      items =
          items_are _ _ (item_pair.0 ∷ item_pair.1 ∷ []) kept c.loop-pairs.invariant.items
          (c.in_ok-pair.ensures.ranged.0, (c.in_ok-pair.ensures.ranged.1, tt));
    }

pub indefinite_pairs-returns-clause-does : goal.indefinite_pairs-returns-clause-does
indefinite_pairs-returns-clause-does g t c =
    does_ok _ _ (break_taken _ _ c.loop-pairs.invariant.reached c.is_break.ensures.decodes
    c.in_ok-part.ensures c.if-not-branch.false)

pub indefinite_pairs-returns-in_err-pair : goal.indefinite_pairs-returns-in_err-pair
indefinite_pairs-returns-in_err-pair g t c =
    let far = no_break_yet _ _ c.loop-pairs.invariant.reached c.is_break.ensures.decodes
    c.in_ok-part.ensures c.if-not-branch.true in
    rw c.from_residual-in_err-pair.ensures (record {
      does = pair_stops _ _ c.loop-pairs.pairs.items far c.in_err-pair.ensures.does;
      memory = λ want. asks_after (λ xs us ys h s. in_further _ xs us ys (values_are _ _ _ xs us
          h.0) s) far (c.in_err-pair.ensures.memory want);
      items = tt;
    })

pub indefinite_pairs-returns-in_err-keep : goal.indefinite_pairs-returns-in_err-keep
indefinite_pairs-returns-in_err-keep g t c =
    let far = no_break_yet _ _ c.loop-pairs.invariant.reached c.is_break.ensures.decodes
    c.in_ok-part.ensures c.if-not-branch.true in
    rw c.from_residual-in_err-keep.ensures (record {
      does = does_no_memory _ _ (ap error_left c.in_err-keep.ensures.memory)
          (kept_then far.kept c.in_ok-pair.ensures.does.moves.by);
      memory = λ want. put_grows _ _ (c.in_ok-pair.pair.0 ∷ c.in_ok-pair.pair.1 ∷ []) (omega arith)
          far (reached_by c.in_ok-pair.ensures.does);
      items = tt;
    })

pub read_pair-returns : goal.read_pair-returns
read_pair-returns g t c =
    record {
      does = does_ok _ _ (pair_read _ c.in_ok-key.ensures.does c.in_ok-value.ensures.does);
      memory = tt;
      ranged = (c.in_ok-key.ensures.ranged, c.in_ok-value.ensures.ranged);
      gains = omega (arith, c.in_ok-key.ensures.gains, c.in_ok-value.ensures.gains);
    }

pub read_pair-returns-in_err-key : goal.read_pair-returns-in_err-key
read_pair-returns-in_err-key g t c =
    rw c.from_residual.ensures (gives_err (λ want. asks_as (in_first _)
    (c.in_err-key.ensures.memory want)) (still_rejected _ _ _ _ (λ xs z rest s. inl s)
    c.in_err-key.ensures.does))

pub read_pair-returns-in_err-value : goal.read_pair-returns-in_err-value
read_pair-returns-in_err-value g t c =
    rw c.from_residual-in_err-value.ensures (gives_err (λ want. asks_after
    (λ xs us ys h s. in_next _ 1 xs us ys (value_is _ _ _ xs us h) s) (reached_by
    c.in_ok-key.ensures.does) (c.in_err-value.ensures.memory want)) (value_rejected _
    c.in_ok-key.ensures.does _ c.in_err-value.ensures.does))

pub read_value-returns : goal.read_value-returns
read_value-returns g t c =
    value_stepped _ c.if-not-step_in.ensures.budget c.step_in.ensures.others
    c.step_out.ensures.budget c.step_out.ensures.others
    c.read_inside-outcome.ensures

pub definite_pairs-returns-then-not-make_room : goal.definite_pairs-returns-then-not-make_room
definite_pairs-returns-then-not-make_room g t c = record {
  does = does_no_memory _ _ refl (kept_alike _);
  memory = λ want.
      asks_here _ (λ xs ys h. inl (0, omega arith, values_are _ _ [] xs ys h))
      (none_read _ _ [] refl);
  items = search rules;
}

pub read_value-returns-then-not-step_in : goal.read_value-returns-then-not-step_in
read_value-returns-then-not-step_in g t c =
    rw c.leave_deep.ensures (gives_err not_wanted (does_no_step value_name _ _ refl refl (λ none xs.
    value_no_step _ _ none xs) c.if-not-step_in.ensures.budget c.step_in.ensures.others))

pub indefinite_items-loop-items-smaller : goal.indefinite_items-loop-items-smaller
indefinite_items-loop-items-smaller g t c =
    omega (
      arith,
      (rw c.in_ok-part.ensures at c.is_break.ensures.decodes.moves).by.bound,
      c.in_ok-value.ensures.gains,
    )

pub indefinite_pairs-loop-pairs-smaller : goal.indefinite_pairs-loop-pairs-smaller
indefinite_pairs-loop-pairs-smaller g t c =
    omega (
      arith,
      (rw c.in_ok-part.ensures at c.is_break.ensures.decodes.moves).by.bound,
      c.in_ok-pair.ensures.gains,
    )

pub read_tagged-returns-in_err-inner : goal.read_tagged-returns-in_err-inner
read_tagged-returns-in_err-inner g t c =
    rw c.from_residual.ensures (gives_err (λ want. asks_as (λ xs ys. inr)
    (c.in_err-inner.ensures.memory want)) (refused c.in_err-inner.ensures.does))

pub read_tagged-returns-in-Ok : goal.read_tagged-returns-in-Ok
read_tagged-returns-in-Ok g t c =
    let is = view-Tag c.args.number c.in-Ok.boxed
    ∙ ap (λ x. tag c.args.number (view x)) c.in-Ok.ensures.ok in
    record {
      does = tagged_ok _ _ (Tag c.args.number c.in-Ok.boxed) is c.in_ok-inner.ensures.does;
      memory = tt;
      ranged = subst IsItem (sym is) (omega arith, c.in_ok-inner.ensures.ranged);
      gains = c.in_ok-inner.ensures.gains;
    }

pub read_tagged-returns : goal.read_tagged-returns
read_tagged-returns g t c =
    gives_err (λ want. asks_here _ (λ xs ys h. inl (value_is _ _ _ xs ys h)) (reached_by
    c.in_ok-inner.ensures.does)) (does_no_memory _ _ refl c.in_ok-inner.ensures.does.moves.by)

-- ---- as many values as one look decides, and the one after them

pub more_items-returns : goal.more_items-returns
more_items-returns g t c =
    items_stepped _ c.if-not-step_in.ensures.budget c.step_in.ensures.others
    c.step_out.ensures.budget c.step_out.ensures.others _ _ _
    c.items_inside-outcome.ensures

pub more_items-returns-then-not-step_in : goal.more_items-returns-then-not-step_in
more_items-returns-then-not-step_in g t c =
    rw c.leave_deep.ensures (gives_err not_wanted (turn_unstepped _ _ _ _ c.requires refl refl
    c.if-not-step_in.ensures.budget c.step_in.ensures.others))

pub items_inside-returns-in_ok-value-in-Some : goal.items_inside-returns-in_ok-value-in-Some
items_inside-returns-in_ok-value-in-Some g t c =
    item_put _ _ _ _ _ _ _ _ _ c.in-Some.is c.in_ok-next.ensures c.put_value.ensures.kept
    c.put_value.ensures.memory c.in_ok-value-in-Some.ensures

pub items_inside-returns-in_err-value-in-Some : goal.items_inside-returns-in_err-value-in-Some
items_inside-returns-in_err-value-in-Some g t c =
    rw c.from_residual-in_err-value-in-Some.ensures (gives_err (λ want. turn_asks _
    (run_before _ _ _ _ _ c.in-Some.is c.in_ok-next.ensures.puts)
    (c.in_err-value-in-Some.ensures.memory want)) (turn_rejected _ _ _ _ _
    (run_before _ _ _ _ _ c.in-Some.is c.in_ok-next.ensures.puts) _ (on_found _ c.in-Some.is
    c.in_ok-next.ensures.lacks) c.in_err-value-in-Some.ensures.does))

pub items_inside-returns-in_err-next : goal.items_inside-returns-in_err-next
items_inside-returns-in_err-next g t c =
    rw c.from_residual.ensures (gives_err c.in_err-next.ensures.memory (turn_ends _ _ _ _ c.requires
    c.in_err-next.ensures.puts))

pub more_pairs-returns : goal.more_pairs-returns
more_pairs-returns g t c =
    items_stepped _ c.if-not-step_in.ensures.budget c.step_in.ensures.others
    c.step_out.ensures.budget c.step_out.ensures.others _ _ _
    c.pairs_inside-outcome.ensures

pub more_pairs-returns-then-not-step_in : goal.more_pairs-returns-then-not-step_in
more_pairs-returns-then-not-step_in g t c =
    rw c.leave_deep.ensures (gives_err not_wanted (turn_unstepped _ _ _ _ c.requires refl refl
    c.if-not-step_in.ensures.budget c.step_in.ensures.others))

pub pairs_inside-returns-in_ok-value-in-Some : goal.pairs_inside-returns-in_ok-value-in-Some
pairs_inside-returns-in_ok-value-in-Some g t c =
    item_put _ _ _ _ _ _ _ _ _ c.in-Some.is c.in_ok-next.ensures c.put_value.ensures.kept
    c.put_value.ensures.memory c.in_ok-value-in-Some.ensures

pub pairs_inside-returns-in_err-value-in-Some : goal.pairs_inside-returns-in_err-value-in-Some
pairs_inside-returns-in_err-value-in-Some g t c =
    rw c.from_residual-in_err-value-in-Some.ensures (gives_err (λ want. turn_asks _
    (run_before _ _ _ _ _ c.in-Some.is c.in_ok-next.ensures.puts)
    (c.in_err-value-in-Some.ensures.memory want)) (turn_rejected _ _ _ _ _
    (run_before _ _ _ _ _ c.in-Some.is c.in_ok-next.ensures.puts) _ (on_found _ c.in-Some.is
    c.in_ok-next.ensures.lacks) c.in_err-value-in-Some.ensures.does))

pub pairs_inside-returns-in_err-next : goal.pairs_inside-returns-in_err-next
pairs_inside-returns-in_err-next g t c =
    rw c.from_residual.ensures (gives_err c.in_err-next.ensures.memory (turn_ends _ _ _ _ c.requires
    c.in_err-next.ensures.puts))

-- ---- an array whose items are counted

pub definite_items-loop-alloc-init : goal.definite_items-loop-alloc-init
definite_items-loop-alloc-init g t c = record {
  reached = none_read _ _ _ (cc);
  items = items_none (cc);
  few = none_too_many _ _ (cc);
}

pub definite_items-loop-alloc-preserved : goal.definite_items-loop-alloc-preserved
definite_items-loop-alloc-preserved g t c = record {
  reached =
      ran _ _ _ _ c.loop-alloc.invariant.reached c.in_ok-more_items.ensures.does;
  items = c.in_ok-more_items.ensures.ranged.0 c.loop-alloc.invariant.items;
  few = c.in_ok-more_items.ensures.ranged.1;
}

-- ---- a map whose pairs are counted

pub definite_pairs-loop-alloc-init : goal.definite_pairs-loop-alloc-init
definite_pairs-loop-alloc-init g t c = record {
  reached = none_read _ _ _ (cc);
  items = items_none (cc);
  few = none_too_many _ _ (cc);
}

pub definite_pairs-loop-alloc-preserved : goal.definite_pairs-loop-alloc-preserved
definite_pairs-loop-alloc-preserved g t c = record {
  reached =
      ran _ _ _ _ c.loop-alloc.invariant.reached c.in_ok-more_pairs.ensures.does;
  items = c.in_ok-more_pairs.ensures.ranged.0 c.loop-alloc.invariant.items;
  few = c.in_ok-more_pairs.ensures.ranged.1;
}

pub definite_pairs-returns-clause-does : goal.definite_pairs-returns-clause-does
definite_pairs-returns-clause-does g t c =
    let budget = (g.S.Source.view c.args.reader.now).budget in
    let pairs = c.loop-alloc.pairs in
    let all = both_there pairs.pairs.items pairs.key c.args.count c.loop-alloc.invariant.few
    (c.lacks.ensures.full c.loop-alloc-test.false) in
    does_ok _ _ (reached_as (ReadEach _ (pair_values pairs) budget) _ (λ xs ys h. pairs_are_read _
    budget
    pairs.pairs.items pairs.key c.args.count xs ys all h) c.loop-alloc.invariant.reached)

pub definite_pairs-returns-clause-items : goal.definite_pairs-returns-clause-items
definite_pairs-returns-clause-items g t c =
    let pairs = c.loop-alloc.pairs in
    pairs_are pairs.pairs.items pairs.key c.args.count (both_there pairs.pairs.items pairs.key
    c.args.count c.loop-alloc.invariant.few (c.lacks.ensures.full c.loop-alloc-test.false))
    c.loop-alloc.invariant.items

pub read_next-returns-in_default : goal.read_next-returns-in_default
read_next-returns-in_default g t c =
    gives_as (λ string before shows. in_string _ _ (next_first _ shows) string)
    (λ d before shows. d before (next_first _ shows)) c.read_alone.ensures

pub indefinite_items-returns-in_err-part : goal.indefinite_items-returns-in_err-part
indefinite_items-returns-in_err-part g t c =
    rw c.from_residual.ensures (record {
      does = no_byte_left false _ _ _ c.loop-items.invariant.reached c.is_break.ensures.decodes
          c.in_err-part.ensures;
      memory = λ want. absurd (no_want (rw c.in_err-part.ensures at
          c.is_break.ensures.decodes.memory) want);
      items = tt;
    })

pub indefinite_pairs-returns-in_err-part : goal.indefinite_pairs-returns-in_err-part
indefinite_pairs-returns-in_err-part g t c =
    rw c.from_residual.ensures (record {
      does = no_byte_left true _ c.loop-pairs.pairs.items _ c.loop-pairs.invariant.reached
          c.is_break.ensures.decodes c.in_err-part.ensures;
      memory = λ want. absurd (no_want (rw c.in_err-part.ensures at
          c.is_break.ensures.decodes.memory) want);
      items = tt;
    })

pub definite_items-returns-then-not-make_room-clause-memory :
    goal.definite_items-returns-then-not-make_room-clause-memory
definite_items-returns-then-not-make_room-clause-memory g t c want =
    asks_here _ (λ xs ys h. inl (0, omega arith, values_are _ _ [] xs ys h)) (none_read _ _ [] refl)

pub definite_items-returns-in_err-more_items : goal.definite_items-returns-in_err-more_items
definite_items-returns-in_err-more_items g t c =
    rw c.from_residual.ensures (record {
      does = stop_alone _ _ _ _ (run_rejects _ _ _ _
          c.loop-alloc.invariant.reached _ c.in_err-more_items.ensures.does);
      memory = λ want. asks_after (λ xs us ys h s. in_any _ xs ys (in_further _ xs us ys
          (values_are _ _ _ xs us h) s)) c.loop-alloc.invariant.reached
          (c.in_err-more_items.ensures.memory want);
      items = tt;
    })

pub definite_pairs-returns-in_err-more_pairs : goal.definite_pairs-returns-in_err-more_pairs
definite_pairs-returns-in_err-more_pairs g t c =
    rw c.from_residual.ensures (record {
      does = run_rejects _ _ _ _ c.loop-alloc.invariant.reached _
          c.in_err-more_pairs.ensures.does;
      memory = λ want. asks_after (λ xs us ys h s. in_any _ xs ys (in_further _ xs us ys
          (values_are _ _ _ xs us h) s)) c.loop-alloc.invariant.reached
          (c.in_err-more_pairs.ensures.memory want);
      items = tt;
    })
