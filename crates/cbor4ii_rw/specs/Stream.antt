-- What a reader over a stream has left: the bytes that were advanced are taken from the stream
-- before it is read again.
use Rattle.std.specs.Prelude.{◌≡◌, ℕ, ◌+◌, ◌-◌, ◌≤◌, ◌^◌, List, length, take, drop, min, Bool, true}
use Rattle.std.specs.Prelude.{false, ◌&&◌, nat_lt, None, Some, Option, Result, Ok, Err}
use Rattle.std.proofs.Common.{rules, arith, length-take, subst}
use Rattle.std.specs.Borrow.{Bor}
use Rattle.cbor4ii_rw.specs.View.{View, IfKnown}
use Rattle.cbor4ii_rw.specs.Reader.{Failed}
use Rattle.cbor4ii_rw.specs.declared.io_reader.Tally.{Tally}
use Rattle.cbor4ii_rw.specs.declared.io_reader.IoReader.{IoReader}

-- the most bytes that are taken in all
abbrev pub most_bytes : ℕ
most_bytes = 2 ^ 64 - 1

-- the first n of the known bytes
abbrev pub cut_known : ℕ → Option (List ℕ) → Option (List ℕ)
cut_known n None = None
cut_known n (Some bytes) = Some (take n bytes)

-- the proof that known bytes, once cut, are no more than the cut
pub cut_within : (most : ℕ) (known : Option (List ℕ))
    → IfKnown (cut_known most known) (λ xs. length xs ≤ most)
cut_within most None xs is = absurd (search (is, rules))
cut_within most (Some bytes) xs is =
    let cut : take most bytes ≡ xs = search (is, rules) in
    subst (λ ys. length ys ≤ most) cut (omega (arith, length-take most bytes))

-- the stream takes n bytes where it is asked to
abbrev pub fits : Option ℕ → ℕ → Bool
fits None n = true
fits (Some limit) n = nat_lt n (limit + 1)

abbrev pub where_known : Bool → List ℕ → Option (List ℕ)
where_known true bytes = Some bytes
where_known false bytes = None

-- the stream's bytes without those that were advanced
abbrev pub held_bytes : Option (List ℕ) → Option ℕ → Tally → Option (List ℕ)
held_bytes None limit tally = None
held_bytes (Some bytes) limit tally =
    where_known (fits limit tally.shown && nat_lt tally.used (tally.shown + 1))
    (drop tally.used bytes)

-- The first arguments are what a stream has left and how many bytes it may be asked to consume.
-- What the stream behind a reader holds, without the bytes that were taken.
abbrev pub stream_left : {R : Type 0} → (R → Option (List ℕ)) → (R → Option ℕ) → IoReader R
    → Option (List ℕ)
stream_left remaining consumable reader =
    held_bytes (remaining reader.inner) (consumable reader.inner) reader.tally

-- It counts what was taken, and is never zero-copy.
-- A reader over a stream reports what the stream has left, up to the most that are taken in all.
abbrev pub stream_view : {R : Type 0} → (R → Option (List ℕ)) → (R → Option ℕ) → IoReader R → View
stream_view remaining consumable reader = record {
  known = cut_known (most_bytes - reader.tally.taken) (stream_left remaining consumable reader);
  bound = most_bytes - reader.tally.taken;
  advanceable = min (reader.tally.shown - reader.tally.used) (most_bytes - reader.tally.taken);
  budget = Some reader.tally.steps;
  failures = reader.tally.failures;
  taken = Some reader.tally.taken;
  zero_copy = false;
  remembers = true;
  ends_at = None;
}

-- `Ok` notes how many bytes are shown and leaves the count of failures, and `Err` raises it
abbrev pub TallyMoves : {E : Type 0} → Tally → Tally → Result (Bor (List ℕ)) E → Type 0
TallyMoves before after (Ok bytes) = (after.shown ≡ length bytes.now) × (after.used ≡ before.used)
    × (after.taken ≡ before.taken) × (after.failures ≡ before.failures)
    × (after.steps ≡ before.steps)
TallyMoves before after (Err error) = (after.shown ≡ before.shown) × (after.used ≡ before.used)
    × (after.taken ≡ before.taken) × Failed before.failures after.failures
    × (after.steps ≡ before.steps)
