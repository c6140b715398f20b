use Rattle.cbor4ii_tree.specs.Inner.{Ahead.{in_map, NeverRejects, RejectsSome}, Skipping.SkipsItems}
use Rattle.cbor4ii_tree.specs.Inner.Skipping.{SkipsIndefinite, SkipsPairs}
use Rattle.cbor4ii_tree.specs.declared.skip.items.Went.TheVariants.{Past}
use Rattle.cbor4ii_tree.proofs.skip_calls.Deeper.{twice, once, counts_none, broke, went_on, ended}
use Rattle.cbor4ii_tree.proofs.skip_calls.Deeper.{cut, unseen, ran, past, into, none_left}
use Rattle.cbor4ii_tree.proofs.skip_calls.Deeper.{without_step, stepped, some_of, break_of, goes_on}
use Rattle.cbor4ii_tree.proofs.skip_calls.Deeper.{was_past, went_into, headed, after_nothing}
use Rattle.cbor4ii_tree.proofs.skip_calls.Deeper.{deeper_none, all_back, does_back, gone_into, gone}
use Rattle.cbor4ii_tree.proofs.skip_calls.Deeper.{gone_without, gone_on, gone_no_further, all_gone}
use Rattle.cbor4ii_tree.proofs.skip_calls.Doing.{reached_start, reached_on, reached_then, does_ok}
use Rattle.cbor4ii_tree.proofs.skip_calls.Doing.{does_value, stops_on, refused, still_rejected}
use Rattle.cbor4ii_tree.proofs.skip_calls.Doing.{alike, stays_then, stays_put, apart_leaf}
use Rattle.cbor4ii_tree.proofs.skip_calls.Doing.{apart_value, apart_with, apart_on, apart_gains}
use Rattle.cbor4ii_tree.proofs.skip_calls.{Doing.{may_stay, lowered}, Parts.keyed_none}
use Rattle.cbor4ii_tree.proofs.skip_calls.Parts.{keyed_turned, keyed_kept, keyed_done, keyed_stop}
use Rattle.cbor4ii_tree.proofs.skip_calls.Parts.{each_none, each_join, indefinite_stop}
use Rattle.cbor4ii_tree.proofs.skip_calls.Parts.{indefinite_done}
use Rattle.std.proofs.Common.{refl, ◌∙◌, arith, rules}
use Rattle.cbor4ii_tree.proofs.skip.items.+skip.Goals as goal
use Rattle.cbor4ii_tree.specs.declared.ahead.Among.TheVariants as among

pub skip_some-skip_without_step-requires-clause-no_step :
    goal.skip_some-skip_without_step-requires-clause-no_step
skip_some-skip_without_step-requires-clause-no_step g t c =
    none_left _ _ _ (g.met.F.BytesAhead.same_budget _ _) c.if-not-step_in.ensures.budget

pub skip_some-returns-then-not-step_in : goal.skip_some-returns-then-not-step_in
skip_some-returns-then-not-step_in g t c =
    apart_gains (λ n h. (h.0, λ some. absurd (omega (arith, some, h.1)))) (without_step
    g.F.BytesAhead.view g.S.Source.view g.met.F.BytesAhead.same_budget g.met.F.BytesAhead.moved
    c.args.among
    c.step_in.ensures.others c.if-not-step_in.ensures.budget c.skip_without_step.ensures)

pub skip_some-returns : goal.skip_some-returns
skip_some-returns g t c =
    stepped g.F.BytesAhead.view g.S.Source.view g.met.F.BytesAhead.same_budget
    g.met.F.BytesAhead.moved
    c.args.among c.step_in.ensures.others c.if-not-step_in.ensures.budget
    c.some_inside-outcome.ensures c.step_out.ensures.budget c.step_out.ensures.others

pub some_inside-returns-in-Some-Past : goal.some_inside-returns-in-Some-Past
some_inside-returns-in-Some-Past g t c =
    was_past c.args.among _ (apart_value c.in-Some-Past.field-0-is c.in-Some-Past.ensures)

pub some_inside-returns-in-None : goal.some_inside-returns-in-None
some_inside-returns-in-None g t c =
    apart_with (λ _. 0) (refused c.in-None.ensures.does) tt stays_put c.in-None.ensures

pub some_inside-returns-then-skip_items : goal.some_inside-returns-then-skip_items
some_inside-returns-then-skip_items g t c =
    into c.args.among c.requires c.in-Some-Into.count
    (apart_value c.in-Some-Into.field-0-is c.in-Some-Into.ensures) c.if-skip_items.ensures

pub some_inside-returns-else-skip_items : goal.some_inside-returns-else-skip_items
some_inside-returns-else-skip_items g t c =
    into c.args.among c.requires c.in-Some-Into.count
    (apart_value c.in-Some-Into.field-0-is c.in-Some-Into.ensures) c.if-skip_items.ensures

pub go_some-returns-in-None : goal.go_some-returns-in-None
go_some-returns-in-None g t c =
    apart_with (λ _. Past 0) (still_rejected _ _ NeverRejects _
    (λ xs z rest h. absurd h) c.in-None.ensures.does) tt stays_put c.in-None.ensures

pub go_some-returns-in-Some-Run : goal.go_some-returns-in-Some-Run
go_some-returns-in-Some-Run g t c =
    past c.args.among (ran c.args.among _ _
    (apart_value c.in-Some-Run.field-0-is c.in-Some-Run.ensures))

pub go_some-returns-in-Some-Head-default-Items : goal.go_some-returns-in-Some-Head-default-Items
go_some-returns-in-Some-Head-default-Items g t c =
    let k = c.in-Some-Head-default-Items in
    rw k.count-is (went_into c.args.among _ _ k.field-0-1-is (apart_value k.field-0-is k.ensures))

pub go_some-returns-then-skip_after : goal.go_some-returns-then-skip_after
go_some-returns-then-skip_after g t c =
    headed c.args.among c.requires _ c.in-Some-Head.trailing
    (apart_value c.in-Some-Head.field-0-is c.in-Some-Head.ensures) c.if-skip_after.ensures

pub go_some-returns-else-skip_after : goal.go_some-returns-else-skip_after
go_some-returns-else-skip_after g t c =
    headed c.args.among c.requires _ c.in-Some-Head.trailing
    (apart_value c.in-Some-Head.field-0-is c.in-Some-Head.ensures) c.if-skip_after.ensures

pub go_some-returns-in-Some-Break : goal.go_some-returns-in-Some-Break
go_some-returns-in-Some-Break g t c =
    past c.args.among (broke c.args.among
    (apart_value c.in-Some-Break.field-0-is c.in-Some-Break.ensures))

pub go_some-returns-in-Some : goal.go_some-returns-in-Some
go_some-returns-in-Some g t c =
    past c.args.among (after_nothing c.args.among
    (apart_value c.in-Some-Unseen.field-0-is c.in-Some-Unseen.ensures) c.in-Some.ensures)

pub go_some-returns-in-None-skip_unseen : goal.go_some-returns-in-None-skip_unseen
go_some-returns-in-None-skip_unseen g t c =
    past c.args.among (after_nothing c.args.among (apart_value c.in-Some-Unseen.field-0-is
    c.in-Some-Unseen.ensures) c.in-None-skip_unseen.ensures)

pub skip_after-returns-in-Nothing : goal.skip_after-returns-in-Nothing
skip_after-returns-in-Nothing g t c =
    goes_on c.in-Nothing.is
    (apart_leaf (does_ok _ _ (reached_start _ _ (λ xs. refl))) tt tt (λ _. refl))

pub skip_after-returns-in-Bytes : goal.skip_after-returns-in-Bytes
skip_after-returns-in-Bytes g t c = search (rules, goes_on, apart_leaf, may_stay)

pub skip_after-returns-in-Items : goal.skip_after-returns-in-Items
skip_after-returns-in-Items g t c = goes_on c.in-Items.is c.skip_items.ensures

pub skip_after-returns-in-Twice : goal.skip_after-returns-in-Twice
skip_after-returns-in-Twice g t c = goes_on c.in-Twice.is c.skip_twice.ensures

pub skip_after-returns-in-Indefinite : goal.skip_after-returns-in-Indefinite
skip_after-returns-in-Indefinite g t c = goes_on c.in-Indefinite.is c.skip_indefinite.ensures

pub skip_after-returns-in-PairsToBreak : goal.skip_after-returns-in-PairsToBreak
skip_after-returns-in-PairsToBreak g t c =
    goes_on c.in-PairsToBreak.is c.skip_indefinite_pairs.ensures

pub skip_items-returns : goal.skip_items-returns
skip_items-returns g t c =
    let same = g.met.F.BytesAhead.same_budget in
    let d = c.skip_inward-done.ensures.skips in
    record {
      does = does_back _ _ (g.met.F.BytesAhead.moved _ _ _ c.give_back.ensures.others) (same _ _
          ∙ all_back _ _ (same _ _) c.give_back.ensures.budget c.skip_inward-done.ensures.deeper)
          d.does;
      spares = d.spares;
      gains = may_stay _;
      stays = stays_then d.stays (λ _. c.give_back.ensures.others);
    }

pub skip_inward-loop-left-preserved : goal.skip_inward-loop-left-preserved
skip_inward-loop-left-preserved g t c = record {
  reached = gone_on c.args.count c.loop-left.left c.loop-left.invariant.reached c.in-Some.now
      c.in-Some.ensures.skips.does (deeper_none _ _ _ c.loop-left.invariant.deeper);
  deeper = c.in-Some.ensures.deeper _ c.loop-left.invariant.deeper;
  stays = stays_then c.loop-left.invariant.stays c.in-Some.ensures.skips.stays;
}

pub skip_inward-returns-in-None : goal.skip_inward-returns-in-None
skip_inward-returns-in-None g t c = record {
  skips =
      apart_with (λ _. tt) (gone_no_further c.args.count c.loop-left.left
      c.loop-left.invariant.reached c.in-None.ensures.skips.does (deeper_none _ _ _
      c.loop-left.invariant.deeper)) tt c.loop-left.invariant.stays c.in-None.ensures.skips;
  deeper = c.in-None.ensures.deeper _ c.loop-left.invariant.deeper;
}

pub skip_inward-returns-clause-skips : goal.skip_inward-returns-clause-skips
skip_inward-returns-clause-skips g t c = record {
  does = all_gone c.args.count c.loop-left.left c.loop-left.invariant.reached
      (omega (arith, c.loop-left-test.false));
  spares = tt;
  gains = tt;
  stays = c.loop-left.invariant.stays;
}

pub skip_inward-returns-clause-deeper : goal.skip_inward-returns-clause-deeper
skip_inward-returns-clause-deeper g t c = c.loop-left.invariant.deeper

pub skip_next-returns-then-not-step_in-clause-skips :
    goal.skip_next-returns-then-not-step_in-clause-skips
skip_next-returns-then-not-step_in-clause-skips g t c =
    gone_without c.args.left c.requires (without_step g.F.BytesAhead.view g.S.Source.view
    g.met.F.BytesAhead.same_budget g.met.F.BytesAhead.moved (among.Items c.args.left)
    c.step_in.ensures.others c.if-not-step_in.ensures.budget c.skip_without_step.ensures)

pub skip_next-returns-then-depth-lt18446744073709551615 :
    goal.skip_next-returns-then-depth-lt18446744073709551615
skip_next-returns-then-depth-lt18446744073709551615 g t c = record {
  skips =
      gone_into g.F.BytesAhead.view g.S.Source.view g.met.F.BytesAhead.same_budget
      g.met.F.BytesAhead.moved
      c.args.left _ c.step_in.ensures.others c.if-not-step_in.ensures.budget (omega
      (arith, c.if-left-eq1.true)) (apart_value c.in-Some-Into.field-0-is c.in-Some-Into.ensures);
  deeper = search rules;
}

pub skip_next-returns-then-done-clause-skips : goal.skip_next-returns-then-done-clause-skips
skip_next-returns-then-done-clause-skips g t c =
    gone c.args.left c.requires (stepped g.F.BytesAhead.view g.S.Source.view
    g.met.F.BytesAhead.same_budget
    g.met.F.BytesAhead.moved (among.Items c.args.left) c.step_in.ensures.others
    c.if-not-step_in.ensures.budget (into (among.Items c.args.left) c.requires c.in-Some-Into.count
    (apart_value c.in-Some-Into.field-0-is c.in-Some-Into.ensures) c.if-done.ensures)
    c.step_out.ensures.budget c.step_out.ensures.others)

pub skip_next-returns-else-done-clause-skips : goal.skip_next-returns-else-done-clause-skips
skip_next-returns-else-done-clause-skips g t c =
    gone c.args.left c.requires (stepped g.F.BytesAhead.view g.S.Source.view
    g.met.F.BytesAhead.same_budget
    g.met.F.BytesAhead.moved (among.Items c.args.left) c.step_in.ensures.others
    c.if-not-step_in.ensures.budget (into (among.Items c.args.left) c.requires c.in-Some-Into.count
    (apart_value c.in-Some-Into.field-0-is c.in-Some-Into.ensures) c.if-done.ensures)
    c.step_out.ensures.budget c.step_out.ensures.others)

pub skip_next-returns-in-Some-Past-clause-skips : goal.skip_next-returns-in-Some-Past-clause-skips
skip_next-returns-in-Some-Past-clause-skips g t c =
    gone c.args.left c.requires
    (stepped g.F.BytesAhead.view g.S.Source.view g.met.F.BytesAhead.same_budget
    g.met.F.BytesAhead.moved
    (among.Items c.args.left) c.step_in.ensures.others c.if-not-step_in.ensures.budget (was_past
    (among.Items c.args.left) _ (apart_value c.in-Some-Past.field-0-is c.in-Some-Past.ensures))
    c.step_out-in-Some-Past.ensures.budget c.step_out-in-Some-Past.ensures.others)

pub skip_next-returns-in-None-clause-skips : goal.skip_next-returns-in-None-clause-skips
skip_next-returns-in-None-clause-skips g t c =
    gone c.args.left c.requires
    (stepped g.F.BytesAhead.view g.S.Source.view g.met.F.BytesAhead.same_budget
    g.met.F.BytesAhead.moved
    (among.Items c.args.left) c.step_in.ensures.others c.if-not-step_in.ensures.budget
    (apart_with (λ _. 0) (refused c.in-None.ensures.does) tt stays_put c.in-None.ensures)
    c.step_out-in-None.ensures.budget c.step_out-in-None.ensures.others)

pub skip_indefinite-loop-init : goal.skip_indefinite-loop-init
skip_indefinite-loop-init g t c = search (rules, reached_start, each_none, stays_put)

pub skip_indefinite-returns-in-None : goal.skip_indefinite-returns-in-None
skip_indefinite-returns-in-None g t c =
    apart_with (λ _. tt) (stops_on c.loop.invariant.reached (RejectsSome among.Indefinite)
    (indefinite_stop _) c.in-None.ensures.does) tt c.loop.invariant.stays c.in-None.ensures

pub skip_indefinite-returns-in-Some-eq0 : goal.skip_indefinite-returns-in-Some-eq0
skip_indefinite-returns-in-Some-eq0 g t c =
    apart_with (λ _. tt) (does_ok _ _ (reached_then _ _ (SkipsIndefinite _) (λ xs ys zs h e.
    indefinite_done _ xs ys zs h e.1)
    c.loop.invariant.reached (break_of among.Indefinite _ c.in-Some-eq0.ensures
    c.in-Some-eq0.field-0-test))) tt c.loop.invariant.stays c.in-Some-eq0.ensures

pub skip_indefinite-loop-preserved : goal.skip_indefinite-loop-preserved
skip_indefinite-loop-preserved g t c = record {
  reached = reached_on c.loop.invariant.reached (SkipsItems _) (each_join _ _)
      (some_of among.Indefinite _ c.in-Some.ensures (omega (arith, c.in-Some.field-0-test)));
  stays = stays_then c.loop.invariant.stays c.in-Some.ensures.stays;
}

pub skip_indefinite_pairs-loop-some-init : goal.skip_indefinite_pairs-loop-some-init
skip_indefinite_pairs-loop-some-init g t c =
    record { reached = reached_start _ _ (keyed_none _); stays = stays_put }

pub skip_indefinite_pairs-returns-in-None : goal.skip_indefinite_pairs-returns-in-None
skip_indefinite_pairs-returns-in-None g t c =
    let h = rw c.in_map.ensures at c.in-None.ensures in
    apart_with (λ _. tt) (stops_on c.loop-some.invariant.reached
    (RejectsSome (in_map c.loop-some.keyed)) (keyed_stop c.loop-some.keyed _) h.does) tt
    c.loop-some.invariant.stays h

pub skip_indefinite_pairs-returns-then-some-eq0 :
    goal.skip_indefinite_pairs-returns-then-some-eq0
skip_indefinite_pairs-returns-then-some-eq0 g t c =
    let h = rw c.in_map.ensures at c.in-Some.ensures in
    apart_with (λ _. tt) (does_ok _ _ (reached_then _ _ (SkipsPairs _) (keyed_done
    c.loop-some.keyed _) c.loop-some.invariant.reached (break_of (in_map c.loop-some.keyed) _
    h c.if-some-eq0.true))) tt c.loop-some.invariant.stays h

pub skip_indefinite_pairs-loop-some-preserved-then-some-eq1 :
    goal.skip_indefinite_pairs-loop-some-preserved-then-some-eq1
skip_indefinite_pairs-loop-some-preserved-then-some-eq1 g t c = record {
  reached = reached_on c.loop-some.invariant.reached (SkipsItems _) (λ xs ys zs. keyed_turned
      c.loop-some.keyed _ _ xs ys zs (omega (arith, c.if-some-eq1.true))) (some_of
      (in_map c.loop-some.keyed) _ (rw c.in_map.ensures at c.in-Some.ensures)
      (omega (arith, c.if-some-eq0.false)));
  stays = stays_then c.loop-some.invariant.stays c.in-Some.ensures.stays;
}

pub skip_indefinite_pairs-loop-some-preserved : goal.skip_indefinite_pairs-loop-some-preserved
skip_indefinite_pairs-loop-some-preserved g t c = record {
  reached = reached_on c.loop-some.invariant.reached (SkipsItems _) (λ xs ys zs. keyed_kept
      c.loop-some.keyed _ _ xs ys zs c.if-some-eq1.false) (some_of (in_map c.loop-some.keyed) _
      (rw c.in_map.ensures at c.in-Some.ensures) (omega (arith, c.if-some-eq0.false)));
  stays = stays_then c.loop-some.invariant.stays c.in-Some.ensures.stays;
}

pub skip_twice-returns-then-not-skip_items : goal.skip_twice-returns-then-not-skip_items
skip_twice-returns-then-not-skip_items g t c =
    apart_on (once c.args.count c.if-not-skip_items.ensures.does) tt stays_put
    c.if-not-skip_items.ensures

pub skip_twice-returns : goal.skip_twice-returns
skip_twice-returns g t c =
    apart_on (twice c.args.count c.if-not-skip_items.ensures.does c.skip_items-2.ensures.does)
    (may_stay _) c.if-not-skip_items.ensures.stays c.skip_items-2.ensures

pub skip_unseen-returns-in-None : goal.skip_unseen-returns-in-None
skip_unseen-returns-in-None g t c =
    apart_leaf (cut c.args.among _ _ (λ xs z rest h budget step. h budget) (rw c.in-None.ensures at
    c.ends.ensures.does)) (rw c.in-None.ensures at c.ends.ensures.spares) tt c.ends.ensures.stays

pub skip_unseen-returns-then-ended : goal.skip_unseen-returns-then-ended
skip_unseen-returns-then-ended g t c =
    apart_leaf (ended c.args.among _ (λ xs ys h budget step. h budget) _
    (does_value c.if-ended.true (rw c.in-Some.ensures at c.ends.ensures.does))) tt (
      counts_none c.args.among ((rw c.in-Some.ensures at c.ends.ensures.ended) c.if-ended.true),
      λ some. omega arith,
    ) c.ends.ensures.stays

pub skip_unseen-returns-then-skip_inside : goal.skip_unseen-returns-then-skip_inside
skip_unseen-returns-then-skip_inside g t c =
    unseen c.args.among c.requires (does_value c.if-ended.false (rw c.in-Some.ensures at
    c.ends.ensures.does)) (alike c.ends.ensures.stays) c.if-skip_inside.ensures

pub skip_unseen-returns : goal.skip_unseen-returns
skip_unseen-returns g t c =
    unseen c.args.among c.requires (does_value c.if-ended.false (rw c.in-Some.ensures at
    c.ends.ensures.does)) (alike c.ends.ensures.stays) c.if-skip_inside.ensures

pub skip_inside-returns-in-None : goal.skip_inside-returns-in-None
skip_inside-returns-in-None g t c =
    apart_leaf (refused (rw c.in-None.ensures at c.skip_head.ensures.does))
    (rw c.in-None.ensures at c.skip_head.ensures.spares) tt c.skip_head.ensures.stays

pub skip_inside-returns-in-Some : goal.skip_inside-returns-in-Some
skip_inside-returns-in-Some g t c =
    apart_on (went_on c.in-Some.trailing (rw c.in-Some.ensures at c.skip_head.ensures.does)
    c.skip_after.ensures.does) (lowered _ (rw c.in-Some.ensures at c.skip_head.ensures.progress)
    c.skip_after.ensures.does.moves) (alike c.skip_head.ensures.stays) c.skip_after.ensures
