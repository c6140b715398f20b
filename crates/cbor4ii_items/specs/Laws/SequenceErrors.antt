-- What an array or a map is rejected with has one error, where its parts have.
use Rattle.std.proofs.Common.{◌≡◌, ℕ, ◌<◌, ◌≤◌, inl, inr, List, length, drop, Bool, IsTrue, Option}
use Rattle.std.proofs.Common.{sym, ◌∙◌, subst, arith, rules}
use Rattle.std.specs.Prelude.{codes}
use Rattle.cbor4ii_items.specs.Decoding.{Reads, RejectsAt, Format, IsLawful}
use Rattle.cbor4ii_items.specs.InputError.{InputError}
use Rattle.cbor4ii_items.specs.NeverBoth.{NeverBoth}
use Rattle.cbor4ii_items.specs.OneError.{OneError, RejectsOnce}
use Rattle.cbor4ii_items.specs.Sequences.{Unbroken, RejectsCount, RejectsPlace, no_byte}
use Rattle.cbor4ii_items.specs.Sequences.{may_read_nothing, part_rejected, RejectsUpToBreak}
use Rattle.cbor4ii_items.specs.Sequences.{RejectsInside, length_rejected, definite_rejected}
use Rattle.cbor4ii_items.specs.Sequences.{indefinite_rejected, after_step, RejectsSequence, no_step}
use Rattle.cbor4ii_items.specs.Sequences.{under_step, RejectsPair, inside_of, sequence_format}
use Rattle.cbor4ii_items.specs.Sequences.{array_format, pair_format, map_format}
use Rattle.cbor4ii_items.specs.Laws.HeadErrors.{head_error}
use Rattle.cbor4ii_items.specs.Laws.Heads.{head_one}
use Rattle.cbor4ii_items.specs.Laws.LeavesApart.{head_apart}
use Rattle.cbor4ii_items.specs.Laws.NumbersOnce.{once_by}
use Rattle.cbor4ii_items.specs.Laws.Sequences.{next_part, parts_size, unbroken_size, not_less}
use Rattle.cbor4ii_items.specs.Laws.Sequences.{pair_lawful}
use Rattle.cbor4ii_items.specs.Laws.SequencesApart.{fits_less, pair_apart, inside_apart, some_parts}
use Rattle.cbor4ii_items.specs.Laws.SequencesApart.{no_more_counted, place_apart, sequence_apart}
use Rattle.cbor4ii_items.specs.Laws.Strings.{head_not_indefinite}

-- ---- parts

module _ {P : Type 0} (reads : Reads P) (rejects : RejectsAt) (apart : NeverBoth reads rejects)
    (once : OneError rejects)
    (size : (xs : List ℕ) (p q : P) (n m c d : ℕ) → reads xs p n c → reads xs q m d → n ≡ m) where
  count_error : (count : ℕ) → OneError (RejectsCount reads rejects count)
  count_error count xs budget e f x y s t =
      let most = not_less (length s.whole) (length t.whole) (λ less.
      no_more_counted reads rejects apart size count xs budget f y t s.whole s.between s.cost
      s.parts s.fits less) in
      let least = not_less (length t.whole) (length s.whole) (λ less.
      no_more_counted reads rejects apart size count xs budget e x s t.whole t.between t.cost
      t.parts t.fits less) in
      let same : s.between ≡ t.between = parts_size reads size xs s.whole t.whole s.between
      t.between s.cost t.cost s.parts t.parts (omega (arith, most, least)) in
      once (drop t.between xs) budget e f x y
      (subst (λ k. rejects (drop k xs) budget e x) same s.stop) t.stop

  module _ (within : (xs : List ℕ) (p : P) (n c : ℕ) → reads xs p n c → n ≤ length xs)
      (never_empty : Bool) (positive : IsTrue never_empty → (xs : List ℕ) (p : P) (n c : ℕ)
      → reads xs p n c → 1 ≤ n) (name : List ℕ) where
    place_error : OneError (RejectsPlace name rejects never_empty)
    place_error xs budget e f x y (no_byte is g h) (no_byte o i j) = (g ∙ sym i, h ∙ sym j)
    place_error xs budget e f x y (no_byte is g h) (may_read_nothing some b o i j) =
        absurd (some is)
    place_error xs budget e f x y (no_byte is g h) (part_rejected some b o t) = absurd (some is)
    place_error xs budget e f x y (may_read_nothing some b o g h) (no_byte is i j) =
        absurd (some is)
    place_error xs budget e f x y (may_read_nothing a b o g h) (may_read_nothing c d p i j) =
        (g ∙ sym i, h ∙ sym j)
    place_error xs budget e f x y (may_read_nothing a b o g h) (part_rejected c d p t) = cc
    place_error xs budget e f x y (part_rejected some b o s) (no_byte is i j) = absurd (some is)
    place_error xs budget e f x y (part_rejected c d p s) (may_read_nothing a b o i j) = cc
    place_error xs budget e f x y (part_rejected a b o s) (part_rejected c d p t) =
        once xs budget e f x y s t

    no_more_unbroken : (xs : List ℕ) (budget : Option ℕ) (e f : InputError) (x y : List ℕ)
        (s : RejectsUpToBreak name reads rejects never_empty xs budget e x)
        (t : RejectsUpToBreak name reads rejects never_empty xs budget f y)
        → length s.whole < length t.whole → ⊥
    no_more_unbroken xs budget e f x y s t less =
        search (rules, next_part, unbroken_size, place_apart, some_parts, fits_less)

    until_error : OneError (RejectsUpToBreak name reads rejects never_empty)
    until_error xs budget e f x y s t =
        let most = not_less (length s.whole) (length t.whole)
        (no_more_unbroken xs budget f e y x t s) in
        let least = not_less (length t.whole) (length s.whole)
        (no_more_unbroken xs budget e f x y s t) in
        let same : s.between ≡ t.between = parts_size (Unbroken reads) (unbroken_size reads size)
        xs s.whole t.whole s.between t.between s.cost t.cost s.parts t.parts
        (omega (arith, most, least)) in
        place_error (drop t.between xs) budget e f x y
        (subst (λ k. RejectsPlace name rejects never_empty (drop k xs) budget e x) same s.stop)
        t.stop

    module _ (major : ℕ) (small : major < 8) where
      pub inside_error : OneError (RejectsInside name major reads rejects never_empty)
      inside_error xs budget e f x y (length_rejected o s) (length_rejected p t) =
          head_error name major 8 xs e f x y s t
      inside_error xs budget e f x y (length_rejected o s) (definite_rejected k n h t) =
          absurd (head_apart name major 8 xs e x k n s h)
      inside_error xs budget e f x y (length_rejected o s) (indefinite_rejected b t) =
          absurd (o b)
      inside_error xs budget e f x y (definite_rejected k n h s) (length_rejected o t) =
          absurd (head_apart name major 8 xs f y k n t h)
      inside_error xs budget e f x y (definite_rejected k n g s) (definite_rejected l m h t) =
          let same = head_one major 8 xs k l n m small g h in
          count_error l (drop m xs) budget e f x y
          (subst (λ i. RejectsCount reads rejects i (drop m xs) budget e x) same.1
          (subst (λ i. RejectsCount reads rejects k (drop i xs) budget e x) same.0 s)) t
      inside_error xs budget e f x y (definite_rejected k n h s) (indefinite_rejected b t) =
          absurd (head_not_indefinite major xs k n small h b)
      inside_error xs budget e f x y (indefinite_rejected b s) (length_rejected o t) =
          absurd (o b)
      inside_error xs budget e f x y (indefinite_rejected b s) (definite_rejected k n h t) =
          absurd (head_not_indefinite major xs k n small h b)
      inside_error xs budget e f x y (indefinite_rejected b s) (indefinite_rejected c t) =
          until_error (drop 1 xs) budget e f x y s t

      pub sequence_error : OneError (RejectsSequence name major reads rejects never_empty)
      sequence_error xs budget e f x y (no_step is g h) (no_step o i j) = (g ∙ sym i, h ∙ sym j)
      sequence_error xs budget e f x y (no_step is g h) (under_step o t) = absurd (o is)
      sequence_error xs budget e f x y (under_step o s) (no_step is i j) = absurd (o is)
      sequence_error xs budget e f x y (under_step o s) (under_step p t) =
          inside_error xs (after_step budget) e f x y s t

-- ---- arrays

module _ {P : Type 0} (name : List ℕ) (major : ℕ) (small : major < 8) (s : Format P)
    (h : IsLawful s) (once : RejectsOnce s) where
  same_size : (xs : List ℕ) (p q : P) (n m c d : ℕ) → s.reads xs p n c → s.reads xs q m d → n ≡ m
  same_size xs p q n m c d f g = (h.one xs p q n m c d f g).0

  -- parts after their head
  pub inside_once : {W : Type 0} (items : W → List P) → RejectsOnce (inside_of items name major s)
  inside_once items = search (rules, inside_apart, same_size, inside_error)

  pub sequence_once : RejectsOnce (sequence_format name major s)
  sequence_once = search (rules, sequence_apart, same_size, sequence_error)

pub array_once : {V : Type 0} (s : Format V) → IsLawful s → RejectsOnce s
    → RejectsOnce (array_format s)
array_once s h once = sequence_once (codes "array") 4 (omega arith) s h once

-- ---- maps

module _ {K V : Type 0} (k : Format K) (v : Format V) (g : IsLawful k) (h : IsLawful v)
    (key : RejectsOnce k) (value : RejectsOnce v) where
  pair_error : OneError (RejectsPair k.reads k.rejects v.rejects)
  pair_error xs budget e f x y (inl s) (inl t) = key.one_error xs budget e f x y s t
  pair_error xs budget e f x y (inl s) (inr t) =
      absurd (key.apart xs budget e x s t.whole t.size t.cost t.key t.fits)
  pair_error xs budget e f x y (inr s) (inl t) =
      absurd (key.apart xs budget f y t s.whole s.size s.cost s.key s.fits)
  pair_error xs budget e f x y (inr s) (inr t) =
      let same = (g.one xs s.whole t.whole s.size t.size s.cost t.cost s.key t.key).0 in
      value.one_error (drop t.size xs) budget e f x y
      (subst (λ i. v.rejects (drop i xs) budget e x) same s.stop) t.stop

  pub pair_once : RejectsOnce (pair_format k v)
  pair_once = search (rules, pair_apart, pair_error)

  pub map_once : RejectsOnce (map_format k v)
  map_once = search (rules, once_by, sequence_once, pair_lawful, pair_once)
