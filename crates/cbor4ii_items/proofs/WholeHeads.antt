-- A head that stands whole in a prefix that was shown.
use Rattle.std.proofs.Common.{◌≡◌, ◌≢◌, ℕ, suc, ◌+◌, ◌-◌, ◌^◌, ◌<◌, ◌≤◌, ◌/◌, ◌%◌, List, [], ◌∷◌}
use Rattle.std.proofs.Common.{◌++◌, length, take, drop, Option, Some, None, Result, Ok, Err, true}
use Rattle.std.proofs.Common.{refl, sym, ap, ◌∙◌, OnOk, IfOk, OnSome, subst, arith}
use Rattle.std.proofs.Common.{eq-eqb, lt-ltb, le-ltb, slice_index_or, rules}
use Rattle.std.proofs.lemmas.List.{take-append-drop, drop-append-le}
use Rattle.std.proofs.Math.Seq.{take-length}
use Rattle.std.proofs.lemmas.Bool.{ne_eqb}
use Rattle.cbor4ii_rw.specs.View.{View, IfKnown}
use Rattle.cbor4ii_rw.specs.Reader.{Shows, Advances, IsPrefix}
use Rattle.cbor4ii_rw.specs.declared.error.DecodeError.{DecodeError}
use Rattle.cbor4ii_rw.specs.declared.error.DecodeError.TheVariants.{Read}
use Rattle.cbor4ii_items.specs.Head.{indefinite_head}
use Rattle.cbor4ii_items.specs.Moves.{ReaderFailed}
use Rattle.cbor4ii_items.specs.Lent.{Stays}
use Rattle.cbor4ii_items.specs.Reading.{Reading, Runs}
use Rattle.cbor4ii_items.specs.ReadHead.{number_on, argument_size, allowed_info, head_by, head_at}
use Rattle.cbor4ii_items.specs.ReadHead.{length_at}
use Rattle.cbor4ii_items.specs.Prefix.{IsWholeHead, IsArgument, RunsOrStays, TookSeen}
use Rattle.cbor4ii_items.specs.Laws.Contents.{lends_prefix, stays_then}
use Rattle.cbor4ii_items.specs.Laws.Steps.{moves_then, moves_ok, broke_then}
use Rattle.cbor4ii_items.specs.Laws.ReadingHeads.{small_argument, allowed_le, wider}

-- ---- a head in a list

-- what follows the first byte
trailing : (b : ℕ) (bs : List ℕ) → take (length (b ∷ bs) - 1) (drop 1 (b ∷ bs)) ≡ bs
trailing b bs = let e : length (b ∷ bs) - 1 ≡ length bs = omega arith in rw e (take-length bs)

in_first_byte : (name rest : List ℕ) (major width b : ℕ) → b / 32 ≡ major → b % 32 < 24
    → head_by name major width b rest ≡ Ok (b % 32, rest)
in_first_byte name rest major width b m small = search (rules, eq-eqb, lt-ltb)

in_following : (name rest : List ℕ) (major width b : ℕ) → b / 32 ≡ major → 24 ≤ b % 32
    → allowed_info width (b % 32) ≡ true
    → head_by name major width b rest ≡ number_on name (argument_size (b % 32))
    (argument_size (b % 32)) 0 rest
in_following name rest major width b m large may = search (rules, eq-eqb, le-ltb)

pub whole_in_first : (major width : ℕ) (shown : List ℕ) → 1 ≤ length shown
    → slice_index_or shown 0 0 < 256 → slice_index_or shown 0 0 / 32 ≡ major
    → slice_index_or shown 0 0 % 32 < 24
    → IsWholeHead major width shown (slice_index_or shown 0 0 % 32) 1
whole_in_first major width [] some byte m small = absurd (omega arith)
whole_in_first major width (b ∷ bs) some byte m small = search (rules, small_argument, in_first_byte)

pub whole_after : (major width argument : ℕ) (shown : List ℕ) → 1 ≤ length shown
    → slice_index_or shown 0 0 < 256 → slice_index_or shown 0 0 / 32 ≡ major
    → 24 ≤ slice_index_or shown 0 0 % 32 → allowed_info width (slice_index_or shown 0 0 % 32) ≡ true
    → IsArgument (slice_index_or shown 0 0 % 32) (take (length shown - 1) (drop 1 shown)) argument
    → IsWholeHead major width shown argument (1 + argument_size (slice_index_or shown 0 0 % 32))
whole_after major width argument [] some byte m large may a = absurd (omega arith)
whole_after major width argument (b ∷ bs) some byte m large may a =
    let p : IsArgument (b % 32) bs argument =
    subst (λ zs. IsArgument (b % 32) zs argument) (trailing b bs) a in
    let e : suc (argument_size (b % 32)) ≡ 1 + argument_size (b % 32) = omega arith in
    subst (IsWholeHead major width (b ∷ bs) argument) e (record {
      some = omega arith;
      within = omega (arith, p.within);
      fits = λ w. wider argument (argument_size (b % 32)) width (allowed_le width (b % 32) may)
          p.fits;
      bytes = (byte, p.bytes);
      head = λ name rest. in_following name (bs ++ rest) major width b m large may
          ∙ p.number name rest;
    })

-- ---- a head that a reader shows

-- the bytes begin with what was shown, so they begin with the head
begins_whole : (name : List ℕ) (major width want argument n : ℕ) (shown xs : List ℕ)
    → IsPrefix want shown xs → IsWholeHead major width shown argument n
    → head_at name major width xs ≡ Ok (argument, drop n xs)
begins_whole name major width want argument n shown xs prefix h =
    let rest = drop (length shown) xs in
    let whole : xs ≡ shown ++ rest =
    sym (take-append-drop (length shown) xs) ∙ ap (λ zs. zs ++ rest) prefix.begins in
    ap (head_at name major width) whole
    ∙ (h.head name rest ∙ ap (λ (zs : List ℕ). Ok (argument, zs))
    (sym (drop-append-le n shown rest h.within) ∙ ap (drop n) (sym whole)))

pub runs_whole : {E : Type 0} (name : List ℕ) {major width want argument n : ℕ} {shown : List ℕ}
    {a m b : View} → Shows shown a m → IfKnown a.known (IsPrefix want shown)
    → IsWholeHead major width shown argument n → Advances n m b
    → Runs {E = E} (head_at name major width) a b (Ok argument)
runs_whole name {major = major} {width = width} {want = want} {argument = argument} {n = n}
    {shown = shown} s prefix h adv =
    let l = lends_prefix {content = take n shown} s prefix h.within h.bytes refl adv in
    record {
      moves = record { by = l.kept; depth = λ e. refl };
      answers = λ xs known. (
        drop n xs,
        (l.at xs known).1,
        begins_whole name major width want argument n shown xs (prefix xs known) h,
      );
    }

pub took_whole : {E : Type 0} {major width want argument n : ℕ} {shown : List ℕ} {a m b : View}
    → Shows shown a m → IfKnown a.known (IsPrefix want shown)
    → IsWholeHead major width shown argument n → Advances n m b
    → TookSeen E (λ name. head_at name major width) (λ v. 1 ≤ width → v < 256 ^ width) argument a b
took_whole s prefix h adv = search (rules, runs_whole)

pub runs_seen : {E : Type 0} {program : List ℕ → Reading ℕ} {small : ℕ → Type 0} {v : ℕ}
    {a b : View} → TookSeen E program small v a b
    → (name : List ℕ) → Runs {E = E} (program name) a b (Ok v)
runs_seen h = h.runs

-- a call after one that took nothing
pub runs_stayed : {V E : Type 0} {f : Reading V} {a m b : View} {r : Result V (DecodeError E)}
    → Stays a m → Runs f m b r → Runs f a b r
runs_stayed {m = m} {b = b} {r = r} s p = search (rules, moves_then)

pub progress_stayed : {V E : Type 0} {a m : View} (bound : ℕ) (r : Result V (DecodeError E))
    → Stays a m → OnOk r (bound + 1 ≤ m.bound) → OnOk r (bound + 1 ≤ a.bound)
progress_stayed bound (Ok v) s h = omega (arith, h, s.kept.bound)
progress_stayed bound (Err e) s h = tt

-- what a call found
pub found_some : {V E : Type 0} (p : Reading V) {a b : View} (o : Option V) {v : V} → o ≡ Some v
    → RunsOrStays {E = E} p a b (Ok o) → Runs {E = E} p a b (Ok v)
found_some p None e h = cc
found_some {E = E} p {a = a} {b = b} (Some u) e h =
    let f : u ≡ _ = cc in subst (λ w. Runs {E = E} p a b (Ok w)) f h

pub found_none : {V : Type 0} (E : Type 0) (p : Reading V) {a b : View} (o : Option V) → o ≡ None
    → RunsOrStays {E = E} p a b (Ok o) → Stays a b
found_none E p None e h = h
found_none E p (Some u) e h = cc

pub then_runs_or_stays : {V E : Type 0} (f : Reading V) {a m : View} (b : View)
    (r : Result (Option V) E) → Stays a m → RunsOrStays f m b r → RunsOrStays f a b r
then_runs_or_stays f b (Ok (Some v)) s h = runs_stayed s h
then_runs_or_stays f b (Ok None) s h = stays_then s h
then_runs_or_stays f b (Err e) s h = broke_then s.kept h

pub then_progress : {V E : Type 0} {a m : View} (bound : ℕ) (r : Result (Option V) E) → Stays a m
    → IfOk r (λ found. OnSome found (bound + 1 ≤ m.bound))
    → IfOk r (λ found. OnSome found (bound + 1 ≤ a.bound))
then_progress bound (Ok (Some v)) s h = omega (arith, h, s.kept.bound)
then_progress bound _ s h = tt

pub runs_broke : {V E : Type 0} {f : Reading V} {a b : View} {e : E} → ReaderFailed a b
    → Runs f a b (Err (Read e))
runs_broke p = record { moves = record { by = p; depth = λ n. refl }; answers = λ xs known. tt }

-- ---- a length that stands whole

not_indefinite : (name : List ℕ) (major b n : ℕ) (bs ys : List ℕ) → major < 8
    → head_by name major 8 b bs ≡ Ok (n, ys) → b ≢ indefinite_head major
not_indefinite name major b n bs ys m e is = search (rules, eq-eqb)

length_read : (name : List ℕ) (major n : ℕ) (xs ys : List ℕ) → major < 8
    → head_at name major 8 xs ≡ Ok (n, ys) → length_at name major xs ≡ Ok (Some n, ys)
length_read name major n [] ys m e = cc
length_read name major n (b ∷ bs) ys m e = search (rules, ne_eqb, not_indefinite)

pub runs_definite : {E : Type 0} (name : List ℕ) (major : ℕ) {n : ℕ} {a b : View} → major < 8
    → Runs {E = E} (head_at name major 8) a b (Ok n)
    → Runs {E = E} (length_at name major) a b (Ok (Some n))
runs_definite name major {n = n} m p = search (rules, moves_ok, length_read)
