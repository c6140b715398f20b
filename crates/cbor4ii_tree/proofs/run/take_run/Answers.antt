use Rattle.std.proofs.Common.{refl, arith, ap, length}
use Rattle.cbor4ii_tree.proofs.values.Sequences.{puts_taken, takes_before, takes_none}
use Rattle.cbor4ii_tree.proofs.values.Sequences.{run_no_memory, run_ends, run_broke, run_fails}
use Rattle.cbor4ii_tree.proofs.values.Sequences.{after_are, not_wanted}
use Rattle.cbor4ii_tree.proofs.{values.Sequences.run_asks, values.Heads.shown_can}
use Rattle.cbor4ii_tree.proofs.run.take_run.Goals as goal

pub returns-in-Ok-Whole : goal.returns-in-Ok-Whole
returns-in-Ok-Whole g c =
    let offers = rw c.in-Ok-Whole.field-0-is at c.in-Ok-Whole.ensures.offers in
    record {
      puts = puts_taken _ _ _ _ offers.shows offers.prefix offers.is.puts
          c.advance.ensures;
      memory = tt;
      items = after_are _ _ _ offers.is.puts;
      few = offers.is.few;
      lacks = tt;
      progress = omega (arith, offers.is.some, offers.shows.bound, c.advance.ensures.bound);
      bound = omega (arith, offers.shows.bound, c.advance.ensures.bound);
      can = tt;
    }

pub returns-in-Ok-Before : goal.returns-in-Ok-Before
returns-in-Ok-Before g c =
    let offers = rw c.in-Ok-Before.field-0-is at c.in-Ok-Before.ensures.offers in
    let advance = c.advance-in-Ok-Before.ensures in
    let puts = takes_before _ _ _ _ _ _ offers advance in
    record {
      puts = puts;
      memory = tt;
      items = after_are _ _ _ offers.is.puts;
      few = omega (arith, offers.is.lacks);
      lacks = offers.is.lacks;
      progress = tt;
      bound = omega (arith, offers.shows.bound, advance.bound);
      can = shown_can _ _ _ _ puts.shows;
    }

pub returns-in-Ok-Begins : goal.returns-in-Ok-Begins
returns-in-Ok-Begins g c =
    let offers = rw c.in-Ok-Begins.field-0-is at c.in-Ok-Begins.ensures.offers in
    let puts = takes_none _ _ _ _ offers in
    record {
      puts = puts;
      memory = tt;
      items = λ are. rw offers.is.0 are;
      few = omega (arith, ap length offers.is.0, c.requires);
      lacks = omega (arith, ap length offers.is.0, c.requires);
      progress = tt;
      bound = offers.shows.bound;
      can = shown_can _ _ _ _ puts.shows;
    }

pub returns-in-Ok-NoMemory : goal.returns-in-Ok-NoMemory
returns-in-Ok-NoMemory g c =
    let offers = rw c.in-Ok-NoMemory.field-0-is at c.in-Ok-NoMemory.ensures.offers in
    run_fails (λ want. run_asks _ offers c.advance-in-Ok-NoMemory.ensures) (run_no_memory _ _ _ _
    offers c.advance-in-Ok-NoMemory.ensures)

pub returns-in-Ok-End : goal.returns-in-Ok-End
returns-in-Ok-End g c =
    let offers = rw c.in-Ok-End.field-0-is at c.in-Ok-End.ensures.offers in
    rw c.leave_end.ensures (run_fails not_wanted (run_ends _ _ _ offers refl))

pub returns-in-Err : goal.returns-in-Err
returns-in-Err g c =
    rw c.leave.ensures (run_fails not_wanted (run_broke _ _ _ _ c.in-Err.ensures.breaks))
