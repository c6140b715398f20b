use Rattle.std.proofs.Common.{rules, arith, ◌≡◌, ℕ, ◌<◌, ◌≤◌, ◌-◌, le_of_eq, min, List, [], length}
use Rattle.std.proofs.Common.{take, Some, Ok, Err, IfSome, refl, sym, ap, subst, length-take-le}
use Rattle.std.specs.Io.{StartsWith}
use Rattle.std.specs.declared.io.Error.{Error}
use Rattle.std.specs.Io.BufRead.{FillKeeps}
use Rattle.std.specs.Io.KnownBytes.{Keeps}
use Rattle.cbor4ii_rw.specs.declared.io_reader.Tally.{Tally}
use Rattle.cbor4ii_rw.specs.Stream.{most_bytes, held_bytes, TallyMoves}
use Rattle.cbor4ii_rw.proofs.StreamLemmas.{cut_prefix, held_cases, held_now, keeps_cut, may_forget}
use Rattle.cbor4ii_rw.proofs.StreamLemmas.{takes_none}
use Rattle.cbor4ii_rw.proofs.io_reader.IoReaderSource.show.Goals as goal

pub returns-in-Ok : goal.returns-in-Ok
returns-in-Ok g c =
    let v = c.show_all.follows.lender-at-none in
    let shown = c.in-Ok.bytes.now in let n = c.min-shown.result in
    let before = c.args.self.now in
    let most = most_bytes - before.tally.taken in
    let a = g.R.Read.remaining before.inner in let b = g.R.Read.remaining c.settle.new.self.inner in
    let w = g.R.Read.remaining v.inner in
    let limit = g.R.BufRead.consumable_len v.inner in
    let started : Tally = record {
      shown = 0;
      used = 0;
      taken = before.tally.taken;
      failures = before.tally.failures;
      steps = before.tally.steps;
    } in
    let settled : c.settle.new.self.tally ≡ started = c.settle.ensures.tally in
    let moved = subst (λ tally. FillKeeps {E = Error} b w limit (Ok c.in-Ok.bytes)
    × TallyMoves {E = Error} tally v.tally (Ok c.in-Ok.bytes)) settled
    (subst (λ r. FillKeeps b w limit r × TallyMoves c.settle.new.self.tally v.tally r) c.in-Ok.is
    c.show_all.follows.holds-at-none) in
    let counts = moved.1 in
    let cases = held_cases a b (g.R.BufRead.consumable_len before.inner) before.tally
    c.settle.ensures.stream in
    let held_after = λ (bytes : List ℕ) (e : b ≡ Some bytes).
    let kept = subst (λ o. FillKeeps {E = Error} o w limit (Ok c.in-Ok.bytes)) e moved.0 in
    held_now w limit v.tally bytes counts.1 kept.0 (subst (λ k. IfSome limit (λ most. k ≤ most))
    (sym counts.0) kept.1) in
    let keeps = cases (λ o. Keeps o (held_bytes w limit v.tally)) tt held_after in
    let prefix = cases (λ o. IfSome o (λ left. StartsWith left shown)) tt
    (λ bytes e. subst (λ o. IfSome o (λ left. StartsWith left shown)) e c.in-Ok.ensures.prefix)
    in
    let end = cases (λ o. IfSome o (λ left. length shown ≡ 0 → left ≡ [])) tt
    (λ bytes e. subst (λ o. IfSome o (λ left. length shown ≡ 0 → left ≡ [])) e
    c.in-Ok.ensures.end) in
    let is : n ≡ min (length shown) most = c.min-shown.ensures in
    let left : 0 < most = search rules in
    let long : length (take n shown) ≡ n = length-take-le n shown (omega arith) in
    let same : most_bytes - v.tally.taken ≡ most = ap (λ k. most_bytes - k) counts.2 in (
      (
        refl,
        λ _. tt,
        record {
          known = keeps_cut most (most_bytes - v.tally.taken) _ _ same keeps;
          bound = le_of_eq same;
          advanceable = omega (arith, long, counts.0, counts.1, counts.2);
          budget = ap Some counts.4;
          failures = counts.3;
          taken = ap Some counts.2;
          zero_copy = λ lent. lent;
          remembers = λ is. is;
          ends_at = refl;
        },
      ),
      record {
        prefix = cut_prefix _ _ shown most n is left prefix end;
        bounded = omega (arith, long);
        ended = λ _. refl;
        after_borrow = tt;
      },
    )

pub returns-in-Err : goal.returns-in-Err
returns-in-Err g c =
    let v = c.show_all.follows.lender-at-none in
    let before = c.args.self.now in
    let most = most_bytes - before.tally.taken in
    let a = g.R.Read.remaining before.inner in let b = g.R.Read.remaining c.settle.new.self.inner in
    let w = g.R.Read.remaining v.inner in
    let limit = g.R.BufRead.consumable_len v.inner in
    let started : Tally = record {
      shown = 0;
      used = 0;
      taken = before.tally.taken;
      failures = before.tally.failures;
      steps = before.tally.steps;
    } in
    let settled : c.settle.new.self.tally ≡ started = c.settle.ensures.tally in
    let moved = subst (λ tally. FillKeeps {E = Error} b w limit (Err c.in-Err.error)
    × TallyMoves {E = Error} tally v.tally (Err c.in-Err.error)) settled
    (subst (λ r. FillKeeps b w limit r × TallyMoves c.settle.new.self.tally v.tally r) c.in-Err.is
    c.show_all.follows.holds-at-none) in
    let counts = moved.1 in
    let held_after = λ (bytes : List ℕ) (e : b ≡ Some bytes).
    let kept = subst (λ o. FillKeeps {E = Error} o w limit (Err c.in-Err.error)) e moved.0 in
    held_now w limit v.tally bytes counts.1 kept.0 (subst (λ k. IfSome limit (λ most. k ≤ most))
    (sym counts.0) (takes_none limit)) in
    let keeps = held_cases a b (g.R.BufRead.consumable_len before.inner) before.tally
    c.settle.ensures.stream (λ o. Keeps o (held_bytes w limit v.tally)) tt held_after in
    let left : 0 < most = search rules in
    let same : most_bytes - v.tally.taken ≡ most = ap (λ k. most_bytes - k) counts.2 in
    let known = keeps_cut most (most_bytes - v.tally.taken) _ _ same keeps in (
      (
        refl,
        λ _. tt,
        record {
          known = may_forget _ _ known;
          kept = λ is. known;
          bound = le_of_eq same;
          budget = ap Some counts.4;
          failures = counts.3;
          taken = ap Some counts.2;
          zero_copy = λ lent. lent;
          remembers = λ is. is;
          ends_at = refl;
        },
      ),
      record {
        prefix = tt;
        bounded = tt;
        ended = λ none. absurd (omega (arith, left, none));
        after_borrow = tt;
      },
    )
