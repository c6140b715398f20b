-- What an array or a map rejects is not read, where its parts' errors are not.
use Rattle.std.proofs.Common.{◌≡◌, ℕ, ◌+◌, ◌<◌, ◌≤◌, ◌⊎◌, inl, inr, List, [], length, drop}
use Rattle.std.proofs.Common.{Option, Some, None, Bool, IsTrue, sym, ap, subst, arith, rules}
use Rattle.std.specs.Prelude.{◌||◌, codes}
use Rattle.cbor4ii_items.specs.Decoding.{Reads, RejectsAt, Format, IsLawful}
use Rattle.cbor4ii_items.specs.Budget.{CostFits}
use Rattle.cbor4ii_items.specs.Head.{break}
use Rattle.cbor4ii_items.specs.NeverBoth.{NeverBoth}
use Rattle.cbor4ii_items.specs.InputError.{InputError}
use Rattle.cbor4ii_items.specs.Sequences.{ReadsElements, ReadsUpToBreak, ReadsInside}
use Rattle.cbor4ii_items.specs.Sequences.{ReadsSequence, RejectsCount, RejectsPlace, no_byte}
use Rattle.cbor4ii_items.specs.Sequences.{may_read_nothing, part_rejected, RejectsUpToBreak}
use Rattle.cbor4ii_items.specs.Sequences.{RejectsInside, length_rejected, definite_rejected}
use Rattle.cbor4ii_items.specs.Sequences.{indefinite_rejected, after_step, RejectsSequence, no_step}
use Rattle.cbor4ii_items.specs.Sequences.{under_step, ReadsPair, RejectsPair, array_format}
use Rattle.cbor4ii_items.specs.Sequences.{map_format}
use Rattle.cbor4ii_items.specs.Laws.Heads.{head_one}
use Rattle.cbor4ii_items.specs.Laws.LeavesApart.{head_apart}
use Rattle.cbor4ii_items.specs.Laws.Sequences.{next_part, parts_size}
use Rattle.cbor4ii_items.specs.Laws.Sequences.{one_byte, pair_lawful}
use Rattle.cbor4ii_items.specs.Laws.Strings.{BeginsWith, head_not_indefinite}

-- ---- budgets

-- what costs no more fits too
pub fits_less : (budget : Option ℕ) (e d : ℕ) → e ≤ d → CostFits d budget → CostFits e budget
fits_less None e d less fits = tt
fits_less (Some left) e d less fits = omega (arith, less, fits)

-- what fits under a step fits what is consumed it
pub fits_after : (budget : Option ℕ) (d : ℕ) → CostFits (1 + d) budget
    → CostFits d (after_step budget)
fits_after None d fits = tt
fits_after (Some left) d fits = omega (arith, fits)

-- where no step is left, nothing is read that costs one
pub none_left : (budget : Option ℕ) (d : ℕ) → budget ≡ Some 0 → CostFits (1 + d) budget → ⊥
none_left None d e fits = cc
none_left (Some left) d e fits = let zero : left ≡ 0 = cc in absurd (omega (arith, zero, fits))

-- ---- parts

-- where parts are read and a break is not yet due, none may read nothing
pub some_parts : {P : Type 0} (never_empty : Bool) (ps : List P) (k : ℕ)
    → IsTrue never_empty ⊎ (ps ≡ []) → k < length ps → IsTrue never_empty
some_parts never_empty ps k (inl some) less = some
some_parts never_empty ps k (inr e) less = absurd (omega (arith, less, ap length e))

module _ {P : Type 0} (reads : Reads P) (rejects : RejectsAt) (apart : NeverBoth reads rejects)
    (size : (xs : List ℕ) (p q : P) (n m c d : ℕ) → reads xs p n c → reads xs q m d → n ≡ m) where
  -- no more parts are read than before the error
  pub no_more_counted : (count : ℕ) (xs : List ℕ) (budget : Option ℕ) (e : InputError) (x : List ℕ)
      (s : RejectsCount reads rejects count xs budget e x) (ps : List P) (n c : ℕ)
      → ReadsElements reads xs ps n c → CostFits c budget → length s.whole < length ps → ⊥
  no_more_counted count xs budget e x s ps n c p fits less = search (rules, next_part, fits_less)

  module _ (within : (xs : List ℕ) (p : P) (n c : ℕ) → reads xs p n c → n ≤ length xs)
      (never_empty : Bool) (positive : IsTrue never_empty → (xs : List ℕ) (p : P) (n c : ℕ)
      → reads xs p n c → 1 ≤ n) (name : List ℕ) where
    -- where a part is read
    pub place_apart : (xs : List ℕ) (budget : Option ℕ) (err : InputError) (rest : List ℕ)
        → RejectsPlace name rejects never_empty xs budget err rest → IsTrue never_empty
        → (p : P) (n c : ℕ) → reads xs p n c → CostFits c budget → ⊥
    place_apart xs budget err rest (no_byte e f g) some p n c r fits =
        absurd (omega (arith, ap length e, within xs p n c r, positive some xs p n c r))
    place_apart xs budget err rest (may_read_nothing a b e f g) some p n c r fits = cc
    place_apart xs budget err rest (part_rejected a b e s) some p n c r fits =
        apart xs budget err rest s p n c r fits

    -- where a break comes
    break_apart : (xs : List ℕ) (budget : Option ℕ) (err : InputError) (rest : List ℕ)
        → RejectsPlace name rejects never_empty xs budget err rest → BeginsWith xs break → ⊥
    break_apart xs budget err rest (no_byte e f g) ends =
        absurd (omega (arith, ap length e, one_byte xs break ends))
    break_apart xs budget err rest (may_read_nothing a b e f g) ends = b ends
    break_apart xs budget err rest (part_rejected a b e s) ends = b ends

    until_apart : (xs : List ℕ) (budget : Option ℕ) (err : InputError) (rest : List ℕ)
        → RejectsUpToBreak name reads rejects never_empty xs budget err rest
        → (ps : List P) (n c : ℕ) → ReadsUpToBreak reads never_empty xs ps n c
        → CostFits c budget → ⊥
    until_apart xs budget err rest s ps n c p fits = search (rules, next_part, parts_size)

    module _ (major : ℕ) (small : major < 8) where
      pub inside_apart : (xs : List ℕ) (budget : Option ℕ) (err : InputError) (rest : List ℕ)
          → RejectsInside name major reads rejects never_empty xs budget err rest
          → (ps : List P) (n c : ℕ) → ReadsInside major reads never_empty xs ps n c
          → CostFits c budget → ⊥
      inside_apart xs budget err rest (length_rejected f s) ps n c (inl p) fits =
          head_apart name major 8 xs err rest (length ps) p.before s p.head
      inside_apart xs budget err rest (length_rejected f s) ps n c (inr p) fits = f p.begins
      inside_apart xs budget err rest (definite_rejected count before h s) ps n c (inl p) fits =
          let same = head_one major 8 xs (length ps) count p.before before small p.head h in
          no_more_counted count (drop before xs) budget err rest s ps p.between c
          (subst (λ j. ReadsElements reads (drop j xs) ps p.between c) same.0 p.parts) fits
          (omega (arith, s.fewer, same.1))
      inside_apart xs budget err rest (definite_rejected count before h s) ps n c (inr p) fits =
          head_not_indefinite major xs count before small h p.begins
      inside_apart xs budget err rest (indefinite_rejected b s) ps n c (inl p) fits =
          head_not_indefinite major xs (length ps) p.before small p.head b
      inside_apart xs budget err rest (indefinite_rejected b s) ps n c (inr p) fits =
          until_apart (drop 1 xs) budget err rest s ps p.between c p.parts fits

      pub sequence_apart : NeverBoth (ReadsSequence major reads never_empty)
          (RejectsSequence name major reads rejects never_empty)
      sequence_apart xs budget err rest (no_step e f g) ps n c p fits =
          none_left budget p.0 e (subst (λ k. CostFits k budget) p.2 fits)
      sequence_apart xs budget err rest (under_step o s) ps n c p fits =
          inside_apart xs (after_step budget) err rest s ps n p.0 p.1
          (fits_after budget p.0 (subst (λ k. CostFits k budget) p.2 fits))

-- ---- arrays

pub array_apart : {V : Type 0} (s : Format V) (rejects : RejectsAt) → IsLawful s
    → NeverBoth s.reads rejects → NeverBoth (array_format s).reads
    (RejectsSequence (codes "array") 4 s.reads rejects s.never_empty)
array_apart s rejects h apart xs budget err rest f v =
    sequence_apart s.reads rejects apart (λ ys p q n m c d g k. (h.one ys p q n m c d g k).0)
    h.within
    s.never_empty h.positive (codes "array") 4 (omega arith) xs budget err rest f v.items

-- ---- maps

module _ {K V : Type 0} (k : Format K) (v : Format V) (key_rejects value_rejects : RejectsAt)
    (g : IsLawful k) (h : IsLawful v) (key_apart : NeverBoth k.reads key_rejects)
    (value_apart : NeverBoth v.reads value_rejects) where
  pub pair_apart : NeverBoth (ReadsPair k.reads v.reads)
      (RejectsPair k.reads key_rejects value_rejects)
  pair_apart xs budget err rest (inl s) p n c f fits = search (rules, fits_less)
  pair_apart xs budget err rest (inr s) p n c f fits =
      let same = (g.one xs s.whole p.0 s.size f.key_size s.cost f.key_cost s.key f.key).0 in
      value_apart (drop s.size xs) budget err rest s.stop p.1 f.value_size f.value_cost
      (subst (λ j. v.reads (drop j xs) p.1 f.value_size f.value_cost) (sym same) f.value)
      (fits_less budget f.value_cost c (omega (arith, f.cost)) fits)

  pub map_apart : NeverBoth (map_format k v).reads (RejectsSequence (codes "map") 5
      (ReadsPair k.reads v.reads) (RejectsPair k.reads key_rejects value_rejects)
      (k.never_empty || v.never_empty))
  map_apart xs budget err rest s m =
      let l = pair_lawful k v g h in
      sequence_apart (ReadsPair k.reads v.reads) (RejectsPair k.reads key_rejects value_rejects)
      pair_apart (λ ys p q n o c d a b. (l.one ys p q n o c d a b).0) l.within
      (k.never_empty || v.never_empty) l.positive (codes "map") 5 (omega arith) xs budget err
      rest s m.0.items
