use Rattle.std.proofs.Common.{IsTrue, ◌+◌, ◌*◌}
use Rattle.cbor4ii_rw.specs.Reader.{KeepsAllButBudget}
use Rattle.cbor4ii_tree.specs.Inner.Deeper.{Deeper, FollowsInside, with_budget}
use Rattle.cbor4ii_tree.proofs.{skip_calls.Doing.Reached, skip_calls.Parts.{SkippedEach, Keyed}}
use Rattle.cbor4ii_tree.proofs.skip.items.+skip.Given as goal

abbrev pub decreases-skip_after : goal.decreases-skip_after
decreases-skip_after g l = 9 * (g.F.BytesAhead.view l.prefix.now l.reader.now).bound + 8

abbrev pub decreases-skip_twice : goal.decreases-skip_twice
decreases-skip_twice g l = 9 * (g.F.BytesAhead.view l.prefix.now l.reader.now).bound + 7

abbrev pub decreases-skip_items : goal.decreases-skip_items
decreases-skip_items g l = 9 * (g.F.BytesAhead.view l.prefix.now l.reader.now).bound + 6

abbrev pub decreases-skip_indefinite : goal.decreases-skip_indefinite
decreases-skip_indefinite g l = 9 * (g.F.BytesAhead.view l.prefix.now l.reader.now).bound + 6

abbrev pub decreases-skip_indefinite_pairs : goal.decreases-skip_indefinite_pairs
decreases-skip_indefinite_pairs g l = 9 * (g.F.BytesAhead.view l.prefix.now l.reader.now).bound + 6

abbrev pub decreases-skip_some : goal.decreases-skip_some
decreases-skip_some g l = 9 * (g.F.BytesAhead.view l.prefix.now l.reader.now).bound + 4

abbrev pub decreases-some_inside : goal.decreases-some_inside
decreases-some_inside g l = 9 * (g.F.BytesAhead.view l.prefix.now l.reader.now).bound + 3

abbrev pub decreases-skip_unseen : goal.decreases-skip_unseen
decreases-skip_unseen g l = 9 * (g.F.BytesAhead.view l.prefix.now l.reader.now).bound + 1

abbrev pub decreases-skip_inside : goal.decreases-skip_inside
decreases-skip_inside g l = 9 * (g.F.BytesAhead.view l.prefix.now l.reader.now).bound

abbrev pub invariant-skip_inward-loop-left : goal.invariant-skip_inward-loop-left
invariant-skip_inward-loop-left g l = record {
  reached : Reached (λ xs ys. FollowsInside l.count (g.F.BytesAhead.view l.prefix l.reader).budget
      (g.F.BytesAhead.view l.fn.prefix l.fn.reader).budget xs l.left ys)
      (g.F.BytesAhead.view l.fn.prefix l.fn.reader) (with_budget
      (g.F.BytesAhead.view l.fn.prefix l.fn.reader).budget (g.F.BytesAhead.view l.prefix l.reader));
  deeper : Deeper l.depth (g.F.BytesAhead.view l.fn.prefix l.fn.reader).budget
      (g.F.BytesAhead.view l.prefix l.reader).budget;
  stays : IsTrue g.F.BytesAhead.apart
      → KeepsAllButBudget (g.S.Source.view l.fn.reader) (g.S.Source.view l.reader);
}

abbrev pub decreases-skip_inward-loop-left : goal.decreases-skip_inward-loop-left
decreases-skip_inward-loop-left g l = (g.F.BytesAhead.view l.prefix l.reader).bound

abbrev pub invariant-skip_indefinite-loop : goal.invariant-skip_indefinite-loop
invariant-skip_indefinite-loop g l = record {
  reached : Reached (SkippedEach (g.F.BytesAhead.view l.fn.prefix l.fn.reader).budget)
      (g.F.BytesAhead.view l.fn.prefix l.fn.reader) (g.F.BytesAhead.view l.prefix l.reader);
  stays : IsTrue g.F.BytesAhead.apart
      → KeepsAllButBudget (g.S.Source.view l.fn.reader) (g.S.Source.view l.reader);
}

abbrev pub decreases-skip_indefinite-loop : goal.decreases-skip_indefinite-loop
decreases-skip_indefinite-loop g l = (g.F.BytesAhead.view l.prefix l.reader).bound

abbrev pub invariant-skip_indefinite_pairs-loop-some :
    goal.invariant-skip_indefinite_pairs-loop-some
invariant-skip_indefinite_pairs-loop-some g l = record {
  reached : Reached (Keyed l.keyed (g.F.BytesAhead.view l.fn.prefix l.fn.reader).budget)
      (g.F.BytesAhead.view l.fn.prefix l.fn.reader) (g.F.BytesAhead.view l.prefix l.reader);
  stays : IsTrue g.F.BytesAhead.apart
      → KeepsAllButBudget (g.S.Source.view l.fn.reader) (g.S.Source.view l.reader);
}

abbrev pub decreases-skip_indefinite_pairs-loop-some :
    goal.decreases-skip_indefinite_pairs-loop-some
decreases-skip_indefinite_pairs-loop-some g l = (g.F.BytesAhead.view l.prefix l.reader).bound

abbrev pub decreases-skip_inward : goal.decreases-skip_inward
decreases-skip_inward g l = 9 * (g.F.BytesAhead.view l.prefix.now l.reader.now).bound + 4

abbrev pub decreases-skip_next : goal.decreases-skip_next
decreases-skip_next g l = 9 * (g.F.BytesAhead.view l.prefix.now l.reader.now).bound + 3

abbrev pub decreases-go_some : goal.decreases-go_some
decreases-go_some g l = 9 * (g.F.BytesAhead.view l.prefix.now l.reader.now).bound + 2
