-- What a reader over a stream has left, before and after a call.
use Rattle.std.proofs.Common.{rules, arith, ◌≡◌, ℕ, ◌+◌, ◌-◌, ◌<◌, ◌≤◌, ◌&&◌, Bool, true, false}
use Rattle.std.proofs.Common.{nat_lt, min, List, [], length, take, drop, None, Some, IfSome, Option}
use Rattle.std.proofs.Common.{refl, sym, ap, subst, ◌∙◌, length-take-le, take-take, length-take}
use Rattle.std.proofs.Math.Seq.{take-nil}
use Rattle.std.proofs.lemmas.List.{drop-drop, drop-take}
use Rattle.std.specs.Io.{StartsWith}
use Rattle.std.specs.Io.BufRead.{DropsConsumable}
use Rattle.std.specs.Io.KnownBytes.{Keeps as KeepsKnown}
use Rattle.std.proofs.Transfers.{starts_with_length}
use Rattle.std.proofs.lemmas.Bool.{ltb-true, lt-ltb}
use Rattle.cbor4ii_rw.specs.declared.io_reader.Tally.{Tally}
use Rattle.cbor4ii_rw.specs.View.{IfKnown}
use Rattle.cbor4ii_rw.specs.Reader.{IsPrefix, Keeps, KeepsOrForgets, Drops}
use Rattle.cbor4ii_rw.specs.Stream.{cut_known, fits, where_known, held_bytes, most_bytes}
use Rattle.cbor4ii_rw.proofs.IfKnown.{known_some, some_inner}

-- nothing is reported
pub known_none : (P : List ℕ → Type 0) → IfKnown None P
known_none P xs is = absurd (search (is, rules))

-- known bytes that stay known are kept, where they are cut alike
pub keeps_cut : (most most' : ℕ) (old new : Option (List ℕ)) → most' ≡ most → KeepsKnown old new
    → Keeps (cut_known most old) (cut_known most' new)
keeps_cut most most' None new same kept = known_none (λ xs. cut_known most' new ≡ Some xs)
keeps_cut most most' (Some bytes) None same kept = absurd kept
keeps_cut most most' (Some bytes) (Some left) same kept = search rules

-- known bytes that stay known are not forgotten
pub may_forget : (old new : Option (List ℕ)) → Keeps old new → KeepsOrForgets old new
may_forget old new kept xs is ys now = some_inner ys xs (sym now ∙ kept xs is)

pub takes_none : (limit : Option ℕ) → IfSome limit (λ most. 0 ≤ most)
takes_none None = tt
takes_none (Some most) = omega arith

-- what was shown, cut at the bound, is a prefix of what is left
pub cut_prefix : (want : ℕ) (known : Option (List ℕ)) (shown : List ℕ) (most n : ℕ)
    → n ≡ min (length shown) most → 0 < most → IfSome known (λ left. StartsWith left shown)
    → IfSome known (λ left. length shown ≡ 0 → left ≡ [])
    → IfKnown (cut_known most known) (IsPrefix want (take n shown))
cut_prefix want None shown most n is room prefix end = known_none (IsPrefix want (take n shown))
cut_prefix want (Some left) shown most n is room prefix end =
    known_some (IsPrefix want (take n shown))
    (take most left) (record {
      begins = ap (λ k. take k (take most left)) long ∙ take-take n most left (omega arith)
          ∙ sym (take-take n (length shown) left (omega arith)) ∙ ap (take n) prefix;
      within = omega (arith, long, starts_with_length left shown prefix, length-take most left);
      ends = λ wanted none. ap (take most) (end (omega (arith, long))) ∙ take-nil most;
    })
  where
    long : length (take n shown) ≡ n
    long = length-take-le n shown (omega arith)

both : (s t : Bool) → (s && t) ≡ true → (s ≡ true) × (t ≡ true)
both true t e = (refl, e)
both false t e = absurd (search (e, rules))

by_bool : (t : Bool) (bytes : List ℕ) (Q : Option (List ℕ) → Type 0) → Q None
    → (t ≡ true → Q (Some bytes)) → Q (where_known t bytes)
by_bool true bytes Q q r = r refl
by_bool false bytes Q q r = q

room : (limit : Option ℕ) (shown used : ℕ) → (fits limit shown && nat_lt used (shown + 1)) ≡ true
    → IfSome limit (λ n. used ≤ n)
room None shown used e = tt
room (Some k) shown used e = search rules

-- where the bytes are held, `consume` drops what was used
pub held_cases : (a b : Option (List ℕ)) (limit : Option ℕ) (tally : Tally)
    → DropsConsumable a b limit tally.used → (Q : Option (List ℕ) → Type 0) → Q None
    → ((bytes : List ℕ) → b ≡ Some bytes → Q (Some bytes)) → Q (held_bytes a limit tally)
held_cases None b limit tally drops Q q r = q
held_cases (Some bytes) b limit tally drops Q q r = search rules

-- what the stream has is held, once nothing of what it showed is used
pub held_now : (known : Option (List ℕ)) (limit : Option ℕ) (tally : Tally) (bytes : List ℕ)
    → tally.used ≡ 0 → KeepsKnown (Some bytes) known → IfSome limit (λ k. tally.shown ≤ k)
    → KeepsKnown (Some bytes) (held_bytes known limit tally)
held_now None limit tally bytes none kept h = absurd kept
held_now (Some left) limit tally bytes none kept h = search rules

drops_held : (n : ℕ) (known : Option (List ℕ)) (limit : Option ℕ) (before after : Tally)
    → after.shown ≡ before.shown → after.used ≡ before.used + n → n ≤ before.shown - before.used
    → Drops n (held_bytes known limit before) (held_bytes known limit after)
drops_held n None limit before after shown used few = known_none (λ xs. None ≡ Some (drop n xs))
drops_held n (Some bytes) limit before after shown used few =
    by_bool (fits limit before.shown && nat_lt before.used (before.shown + 1))
    (drop before.used bytes) (λ o. Drops n o (held_bytes (Some bytes) limit after))
    (known_none (λ xs. held_bytes (Some bytes) limit after ≡ Some (drop n xs))) (λ e.
    let indefinite_after : (fits limit after.shown && nat_lt after.used (after.shown + 1)) ≡ true =
    still_indefinite n limit before after shown used few e in
    subst (λ t. Drops n (Some (drop before.used bytes)) (where_known t (drop after.used bytes)))
    (sym indefinite_after)
    (known_some (λ xs. Some (drop after.used bytes) ≡ Some (drop n xs)) (drop before.used bytes)
    (ap Some (ap (λ k. drop k bytes) used ∙ sym (drop-drop n before.used bytes)))))
  where
    still_indefinite : (n : ℕ) (limit : Option ℕ) (before after : Tally) → after.shown ≡
        before.shown
        → after.used ≡ before.used + n → n ≤ before.shown - before.used
        → (fits limit before.shown && nat_lt before.used (before.shown + 1)) ≡ true
        → (fits limit after.shown && nat_lt after.used (after.shown + 1)) ≡ true
    still_indefinite n limit before after shown used few e =
        let parts = both _ _ e in
        ap (λ k. fits limit k && nat_lt after.used (after.shown + 1)) shown
        ∙ ap (λ t. t && nat_lt after.used (after.shown + 1)) parts.0
        ∙ lt-ltb after.used (after.shown + 1)
        (omega (arith, shown, used, few, ltb-true before.used (before.shown + 1) parts.1))

drops_cut : (n most most' : ℕ) (a b : Option (List ℕ)) → n + most' ≡ most → Drops n a b
    → Drops n (cut_known most a) (cut_known most' b)
drops_cut n most most' None b split kept = known_none (λ xs. cut_known most' b ≡ Some (drop n xs))
drops_cut n most most' (Some bytes) b split kept = search (rules, known_some, drop-take)

-- what `advance` leaves
pub drops_left : (n : ℕ) (known : Option (List ℕ)) (limit : Option ℕ) (before after : Tally)
    → after.shown ≡ before.shown → after.used ≡ before.used + n → after.taken ≡ before.taken + n
    → n ≤ before.shown - before.used → n ≤ most_bytes - before.taken
    → Drops n (cut_known (most_bytes - before.taken) (held_bytes known limit before))
    (cut_known (most_bytes - after.taken) (held_bytes known limit after))
drops_left n known limit before after shown used taken few room =
    search (rules, drops_cut, room, drops_held)
