-- What a reader over segments shows of its current one.
use Rattle.std.proofs.Common.{rules, arith, ◌≡◌, ℕ, ◌+◌, ◌<◌, min, List, [], ◌∷◌, ◌++◌, length}
use Rattle.std.proofs.Common.{take, nat_lt, refl, sym, ap, subst, ◌∙◌, ◌≤◌, length-append}
use Rattle.std.proofs.Common.{length-take-le}
use Rattle.std.proofs.lemmas.List.{take-append-le, nil_from_length}
use Rattle.std.proofs.lemmas.Bool.{ltb-true}
use Rattle.std.specs.Prelude.{IsTrue}
use Rattle.std.specs.Borrow.{Bor}
use Rattle.cbor4ii_rw.specs.Reader.{IsPrefix, IsEnough}
use Rattle.cbor4ii_rw.specs.Segments.{joined_segments, count_of_full, full_count, first_nonempty}
use Rattle.cbor4ii_rw.specs.Segments.{first_full, shown_segment, rest_of, full_of, segment_view}
use Rattle.cbor4ii_rw.specs.Long.{FillsLong}
use Rattle.cbor4ii_rw.specs.declared.segment_reader.SegmentReader.{SegmentReader}
use Rattle.cbor4ii_rw.proofs.IfKnown.{known_some}

nothing_left : (current others : List ℕ) → length current ≡ 0 → others ≡ [] → current ++ others ≡ []
nothing_left [] others none end = end
nothing_left (byte ∷ bytes) others none end = absurd (search (none, rules))

shown_length : (want n : ℕ) (current : List ℕ) → n ≡ min want (length current)
    → length (take n current) ≡ n
shown_length want n current is = length-take-le n current (omega (arith, is))

prefix_of_current : (want n : ℕ) (current others : List ℕ) → n ≡ min want (length current)
    → (length current ≡ 0 → current ++ others ≡ [])
    → IsPrefix want (take n current) (current ++ others)
prefix_of_current want n current others is end = record {
  begins = ap (λ k. take k (current ++ others)) long
      ∙ take-append-le n current others (omega (arith, is));
  within = omega (arith, is, long, length-append current others);
  ends = λ wanted none. let nil_from_length : length current ≡ 0 = omega (arith, is, long) in
      end nil_from_length;
}
  where
    long : length (take n current) ≡ n
    long = shown_length want n current is

full_zero : (bytes : List ℕ) → count_of_full bytes ≡ 0 → bytes ≡ []
full_zero [] none = refl
full_zero (byte ∷ bytes) none = absurd (search (none, rules))

none_full : (others : List (Bor (List ℕ))) → full_count others ≡ 0 → joined_segments others ≡ []
none_full [] none = refl
none_full (segment ∷ others) none =
    search (rules, nothing_left, full_zero, (none_full others (omega arith)))

last_full : (current : List ℕ) (others : List (Bor (List ℕ)))
    → (length current ≡ 0 → current ++ joined_segments others ≡ [])
    → count_of_full current + full_count others < 2
    → joined_segments others ≡ []
last_full [] others end one = end refl
last_full (byte ∷ bytes) others end one = none_full others (omega arith)

current_is_enough : (want n : ℕ) (current : List ℕ) (others : List (Bor (List ℕ)))
    → n ≡ min want (length current) → (length current ≡ 0 → current ++ joined_segments others ≡ [])
    → IsTrue (nat_lt (count_of_full current + full_count others) 2)
    → IsEnough want (take n current) (current ++ joined_segments others)
current_is_enough want n current others is end one =
    search (rules, ltb-true, shown_length, last_full, length-append)

nothing_full : (others : List (Bor (List ℕ))) → length (joined_segments others) ≡ 0
    → first_full others ≡ []
nothing_full [] none = refl
nothing_full (segment ∷ others) none =
    search (rules, nil_from_length, length-append, (nothing_full others (omega (arith, none, length-append segment.now (joined_segments others)))))

-- once empty segments are passed, the current one is shown
current_is_shown : (current : List ℕ) (others : List (Bor (List ℕ)))
    → (length current ≡ 0 → current ++ joined_segments others ≡ [])
    → first_nonempty current (first_full others) ≡ current
current_is_shown [] others end = nothing_full others (ap length (end refl))
current_is_shown (byte ∷ bytes) others end = refl

-- what a reader shows of its current segment, once it passed empty ones
pub record ShowsCurrent (old new : SegmentReader) (want : ℕ) (shown : List ℕ) : Type 0 where
  pub fills : FillsLong want shown (segment_view old) (segment_view new)
  pub within : length shown ≤ length (rest_of old)
  pub size : length shown ≡ min want (length (shown_segment old))

pub shows_current : (old new : SegmentReader) → (length new.current.now ≡ 0 → rest_of new ≡ [])
    → rest_of new ≡ rest_of old → shown_segment new ≡ shown_segment old → full_of new ≡ full_of old
    → new.steps ≡ old.steps → (want n : ℕ) → n ≡ min want (length new.current.now)
    → ShowsCurrent old new want (take n new.current.now)
shows_current old new end bytes segment count steps want n is =
    let current = new.current.now in let others = new.segments.now in
    let shown = take n current in
    let long = shown_length want n current is in
    let prefix = subst (λ rest. IsPrefix want shown rest) bytes
    (prefix_of_current want n current (joined_segments others) is end) in
    let whole : shown_segment old ≡ current = sym segment ∙ current_is_shown current others end in
    let one_left : IsTrue (nat_lt (full_of old) 2) → IsTrue (nat_lt (full_of new) 2) =
    λ one. subst (λ k. IsTrue (nat_lt k 2)) (sym count) one in
    record {
      fills = search (rules, known_some, current_is_enough);
      within = prefix.within;
      size = omega (arith, long, is, ap length whole);
    }
