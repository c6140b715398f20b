-- Arrays and maps are read as their parts are.
use Rattle.std.proofs.Common.{◌≡◌, ℕ, ◌<◌, ◌≤◌, ◌⊎◌, inl, inr, List, [], ◌∷◌, ◌++◌, length, drop}
use Rattle.std.proofs.Common.{take, Bool, true, false, IsTrue, refl, sym, ap, ◌∙◌, subst, arith}
use Rattle.std.proofs.Common.{max, rules}
use Rattle.std.specs.Prelude.{◌||◌, codes}
use Rattle.std.proofs.lemmas.List.{length-drop}
use Rattle.cbor4ii_items.specs.Head.{break}
use Rattle.cbor4ii_items.specs.Laws.Heads.{head_one, head_read}
use Rattle.cbor4ii_items.specs.Laws.Strings.{BeginsWith, head_not_indefinite}
use Rattle.cbor4ii_items.specs.Laws.Containers.{both, first_kept}
use Rattle.cbor4ii_items.specs.Laws.Prefixes.{drop_more, two_prefixes, after_prefix}
use Rattle.cbor4ii_items.specs.Sequences.{ReadsElements, Unbroken, ReadsUpToBreak}
use Rattle.cbor4ii_items.specs.Sequences.{ReadsDefiniteElements, ReadsIndefiniteElements}
use Rattle.cbor4ii_items.specs.Sequences.{ReadsInside, ReadsSequence, SameElements, ReadsPair}
use Rattle.cbor4ii_items.specs.Sequences.{SamePair, sequence_format, array_format, pair_format}
use Rattle.cbor4ii_items.specs.Sequences.{map_format}
use Rattle.cbor4ii_items.specs.Laws.Lawful.{IsOneReading, IsOneSize, StaysWithin, StandsAlone}
use Rattle.cbor4ii_items.specs.Laws.Lawful.{head_kept, TakesSome}
use Rattle.cbor4ii_items.specs.Decoding.{Reads, Format, IsLawful}
use Rattle.cbor4ii_items.specs.Laws.Formats.{lawful_by}

pub not_less : (m n : ℕ) → (n < m → ⊥) → m ≤ n
not_less m n h = omega arith

pub same_max : (c d a b x y : ℕ) → c ≡ max a x → d ≡ max b y → a ≡ b → x ≡ y → c ≡ d
same_max c d a b x y p q e f = omega arith

pub one_byte : (xs : List ℕ) (b : ℕ) → BeginsWith xs b → 1 ≤ length xs
one_byte [] b e = cc
one_byte (x ∷ xs) b e = omega arith

-- ---- parts

module _ {P : Type 0} (reads : Reads P) where
  pub parts_within : StaysWithin reads → (xs : List ℕ) (ps : List P) (n c : ℕ)
      → ReadsElements reads xs ps n c → n ≤ length xs
  parts_within within xs [] n c h = omega (arith, h.0)
  parts_within within xs (p ∷ ps) n c h =
      search (rules, length-drop, (parts_within within (drop h.0 xs) ps h.2 h.3 h.5))

  -- where more parts are read, one is read after the first ones, at no more cost
  pub next_part : IsOneSize reads → (xs : List ℕ) (ps qs : List P) (n c m d : ℕ)
      → ReadsElements reads xs ps n c → ReadsElements reads xs qs m d → length ps < length qs
      → (q : P) × (k : ℕ) × (e : ℕ) × reads (drop n xs) q k e × (e ≤ d)
  next_part one xs _ [] n c m d g h less = absurd (omega arith)
  next_part one xs [] (q ∷ qs) n c m d g h less =
      (q, h.0, h.1, subst (λ j. reads (drop j xs) q h.0 h.1) (sym g.0) h.4, omega (arith, h.7))
  next_part one xs (p ∷ ps) (q ∷ qs) n c m d g h less =
      let first : g.0 ≡ h.0 = one xs p q g.0 h.0 g.1 h.1 g.4 h.4 in
      let r = next_part one (drop g.0 xs) ps qs g.2 g.3 h.2 h.3 g.5
      (subst (λ j. ReadsElements reads (drop j xs) qs h.2 h.3) (sym first) h.5) (omega arith) in
      let e : drop g.2 (drop g.0 xs) ≡ drop n xs =
      drop_more g.2 g.0 xs ∙ ap (λ j. drop j xs) (sym g.6) in
      (r.0, r.1, r.2, subst (λ ys. reads ys r.0 r.1 r.2) e r.3, omega (arith, r.4, h.7))

  -- as many parts take as many bytes
  pub parts_size : IsOneSize reads → (xs : List ℕ) (ps qs : List P) (n m c d : ℕ)
      → ReadsElements reads xs ps n c → ReadsElements reads xs qs m d → length ps ≡ length qs
      → n ≡ m
  parts_size one xs [] [] n m c d g h e = g.0 ∙ sym h.0
  parts_size one xs [] (q ∷ qs) n m c d g h e = absurd (omega arith)
  parts_size one xs (p ∷ ps) [] n m c d g h e = absurd (omega arith)
  parts_size one xs (p ∷ ps) (q ∷ qs) n m c d g h e =
      let first : g.0 ≡ h.0 = one xs p q g.0 h.0 g.1 h.1 g.4 h.4 in
      let rest = parts_size one (drop g.0 xs) ps qs g.2 h.2 g.3 h.3 g.5
      (subst (λ j. ReadsElements reads (drop j xs) qs h.2 h.3) (sym first) h.5) (omega arith) in
      omega (arith, g.6, h.6, first, rest)

  parts_one : (same : P → P → Type 0) → IsOneReading reads same
      → (xs : List ℕ) (ps qs : List P) (n m c d : ℕ) → ReadsElements reads xs ps n c
      → ReadsElements reads xs qs m d → length ps ≡ length qs
      → (n ≡ m) × (c ≡ d) × SameElements same ps qs
  parts_one same one xs [] [] n m c d g h e = (g.0 ∙ sym h.0, g.1 ∙ sym h.1, tt)
  parts_one same one xs [] (q ∷ qs) n m c d g h e = absurd (omega arith)
  parts_one same one xs (p ∷ ps) [] n m c d g h e = absurd (omega arith)
  parts_one same one xs (p ∷ ps) (q ∷ qs) n m c d g h e =
      let first = one xs p q g.0 h.0 g.1 h.1 g.4 h.4 in
      let rest = parts_one same one (drop g.0 xs) ps qs g.2 h.2 g.3 h.3 g.5
      (subst (λ j. ReadsElements reads (drop j xs) qs h.2 h.3) (sym first.0) h.5) (omega arith) in (
        omega (arith, g.6, h.6, first.0, rest.0),
        same_max c d g.1 h.1 g.3 h.3 g.7 h.7 first.1 rest.1,
        (first.2, rest.2),
      )

  parts_alone : StaysWithin reads → StandsAlone reads → (xs ys : List ℕ) (ps : List P) (n c : ℕ)
      → ReadsElements reads xs ps n c → ReadsElements reads (take n xs ++ ys) ps n c
  parts_alone within alone xs ys [] n c h = h
  parts_alone within alone xs ys (p ∷ ps) n c h =
      let trailing = drop h.0 xs in
      let tail = take h.2 trailing ++ ys in
      let whole : take n xs ++ ys ≡ take h.0 xs ++ tail = two_prefixes h.0 h.2 n xs ys h.6 in
      let left : drop h.0 (take n xs ++ ys) ≡ tail =
      ap (drop h.0) whole ∙ after_prefix h.0 xs tail (within xs p h.0 h.1 h.4) in (
        h.0,
        h.1,
        h.2,
        h.3,
        subst (λ zs. reads zs p h.0 h.1) (sym whole) (alone xs tail p h.0 h.1 h.4),
        subst (λ zs. ReadsElements reads zs ps h.2 h.3) (sym left)
            (parts_alone within alone trailing ys ps h.2 h.3 h.5),
        h.6,
        h.7,
      )

  no_parts : (xs zs : List ℕ) (ps : List P) (n c : ℕ) → ps ≡ [] → ReadsElements reads xs ps n c
      → ReadsElements reads zs ps n c
  no_parts xs zs [] n c e h = h
  no_parts xs zs (p ∷ ps) n c e h = cc

-- ---- parts up to a break

module _ {P : Type 0} (reads : Reads P) where
  pub unbroken_size :
      IsOneSize reads
      → (xs : List ℕ) (p q : P) (n m c d : ℕ) → Unbroken reads xs p n c → Unbroken reads xs q m d
      → n ≡ m
  unbroken_size one xs p q n m c d g h = one xs p q n m c d g.1 h.1

  -- at a break no more parts are read
  pub ends_at_break :
      IsOneSize reads
      → (xs : List ℕ) (ps qs : List P) (n c m d : ℕ) → ReadsElements (Unbroken reads) xs ps n c
      → BeginsWith (drop n xs) break → ReadsElements (Unbroken reads) xs qs m d → length qs ≤
      length ps
  ends_at_break one xs ps qs n c m d g ends h = not_less (length qs) (length ps) (λ less.
      let r = next_part (Unbroken reads) (unbroken_size one) xs ps qs n c m d g h less in
      r.3.0 ends)

  whole_size : (same : P → P → Type 0) → IsOneReading reads same
      → (xs : List ℕ) (p q : P) (n m c d : ℕ) → reads xs p n c → reads xs q m d → n ≡ m
  whole_size same one xs p q n m c d g h = (one xs p q n m c d g h).0

  until_one : (same : P → P → Type 0) → IsOneReading reads same
      → (never_empty : Bool) (xs : List ℕ) (ps qs : List P) (n m c d : ℕ)
      → ReadsUpToBreak reads never_empty xs ps n c → ReadsUpToBreak reads never_empty xs qs m d
      → (n ≡ m) × (c ≡ d) × SameElements same ps qs
  until_one same one never_empty xs ps qs n m c d g h =
      let size = whole_size same one in
      let more = ends_at_break size xs ps qs g.between c h.between d g.parts g.ends h.parts in
      let less = ends_at_break size xs qs ps h.between d g.between c h.parts h.ends g.parts in
      let r = parts_one (Unbroken reads) same (λ xs p q n m c d u w. one xs p q n m c d u.1 w.1) xs
      ps qs g.between h.between c d g.parts h.parts (omega (arith, more, less)) in
      (omega (arith, g.size, h.size, r.0), r.1, r.2)

  unbroken_within : StaysWithin reads → (xs : List ℕ) (p : P) (n c : ℕ) → Unbroken reads xs p n c
      → n ≤ length xs
  unbroken_within within xs p n c h = within xs p n c h.1

  until_within : StaysWithin reads → (never_empty : Bool) (xs : List ℕ) (ps : List P) (n c : ℕ)
      → ReadsUpToBreak reads never_empty xs ps n c → n ≤ length xs
  until_within within never_empty xs ps n c h =
      search (rules, parts_within, unbroken_within, one_byte, length-drop)

  module _ (within : StaysWithin reads)
      (alone : StandsAlone reads)
      (never_empty : Bool)
      (positive : IsTrue never_empty → TakesSome reads) where
    unbroken_alone : IsTrue never_empty → (xs ys : List ℕ) (p : P) (n c : ℕ)
        → Unbroken reads xs p n c → Unbroken reads (take n xs ++ ys) p n c
    unbroken_alone some xs ys p n c h = search (rules, first_kept)

    allowed_alone : (xs ys : List ℕ) (ps : List P) (n c : ℕ) → IsTrue never_empty ⊎ (ps ≡ [])
        → ReadsElements (Unbroken reads) xs ps n c
        → ReadsElements (Unbroken reads) (take n xs ++ ys) ps n c
    allowed_alone xs ys ps n c (inl some) h =
        parts_alone (Unbroken reads) (unbroken_within within) (unbroken_alone some) xs ys ps n c h
    allowed_alone xs ys ps n c (inr none) h =
        no_parts (Unbroken reads) xs (take n xs ++ ys) ps n c none h

    until_alone : (xs ys : List ℕ) (ps : List P) (n c : ℕ)
        → ReadsUpToBreak reads never_empty xs ps n c
        → ReadsUpToBreak reads never_empty (take n xs ++ ys) ps n c
    until_alone xs ys ps n c h =
        let trailing = drop h.between xs in
        let tail = take 1 trailing ++ ys in
        let whole : take n xs ++ ys ≡ take h.between xs ++ tail =
        two_prefixes h.between 1 n xs ys h.size in
        let room =
        parts_within (Unbroken reads) (unbroken_within within) xs ps h.between c h.parts in
        let left : drop h.between (take n xs ++ ys) ≡ tail =
        ap (drop h.between) whole ∙ after_prefix h.between xs tail room in
        record {
          allowed = h.allowed;
          between = h.between;
          parts =
              subst (λ zs. ReadsElements (Unbroken reads) zs ps h.between c) (sym whole)
              (allowed_alone xs tail ps h.between c h.allowed h.parts);
          ends = ap (take 1) left ∙ ap (λ (zs : List ℕ). take 1 (zs ++ ys)) h.ends;
          size = h.size;
        }

-- ---- sequences

module _ {P : Type 0} (major : ℕ) (small : major < 8) (reads : Reads P) (never_empty : Bool) where
  definite_one : (same : P → P → Type 0) → IsOneReading reads same
      → (xs : List ℕ) (ps qs : List P) (n m c d : ℕ) → ReadsDefiniteElements major reads xs ps n c
      → ReadsDefiniteElements major reads xs qs m d → (n ≡ m) × (c ≡ d) × SameElements same ps qs
  definite_one same one xs ps qs n m c d g h =
      let e = head_one major 8 xs (length ps) (length qs) g.before h.before small g.head h.head in
      let r = parts_one reads same one (drop g.before xs) ps qs g.between h.between c d g.parts
      (subst (λ j. ReadsElements reads (drop j xs) qs h.between d) (sym e.0) h.parts) e.1 in
      (omega (arith, g.size, h.size, e.0, r.0), r.1, r.2)

  inside_one : (same : P → P → Type 0) → IsOneReading reads same
      → (xs : List ℕ) (ps qs : List P) (n m c d : ℕ) → ReadsInside major reads never_empty xs ps n c
      → ReadsInside major reads never_empty xs qs m d → (n ≡ m) × (c ≡ d) × SameElements same ps qs
  inside_one same one xs ps qs n m c d (inl g) (inl h) = definite_one same one xs ps qs n m c d g h
  inside_one same one xs ps qs n m c d (inl g) (inr h) =
      absurd (head_not_indefinite major xs (length ps) g.before small g.head h.begins)
  inside_one same one xs ps qs n m c d (inr g) (inl h) =
      absurd (head_not_indefinite major xs (length qs) h.before small h.head g.begins)
  inside_one same one xs ps qs n m c d (inr g) (inr h) =
      let r = until_one reads same one never_empty (drop 1 xs) ps qs g.between h.between c d g.parts
      h.parts in
      (omega (arith, g.size, h.size, r.0), r.1, r.2)

  pub sequence_one : (same : P → P → Type 0) → IsOneReading reads same
      → (xs : List ℕ) (ps qs : List P) (n m c d : ℕ)
      → ReadsSequence major reads never_empty xs ps n c
      → ReadsSequence major reads never_empty xs qs m d
      → (n ≡ m) × (c ≡ d) × SameElements same ps qs
  sequence_one same one xs ps qs n m c d g h =
      let r = inside_one same one xs ps qs n m g.0 h.0 g.1 h.1 in
      (r.0, omega (arith, g.2, h.2, r.1), r.2)

  inside_within : StaysWithin reads → (xs : List ℕ) (ps : List P) (n c : ℕ)
      → ReadsInside major reads never_empty xs ps n c → n ≤ length xs
  inside_within within xs ps n c (inl h) = search (rules, head_read, parts_within, length-drop)
  inside_within within xs ps n c (inr h) = search (rules, one_byte, until_within, length-drop)

  pub sequence_within : StaysWithin reads → (xs : List ℕ) (ps : List P) (n c : ℕ)
      → ReadsSequence major reads never_empty xs ps n c → n ≤ length xs
  sequence_within within xs ps n c h = inside_within within xs ps n h.0 h.1

  inside_positive : (xs : List ℕ) (ps : List P) (n c : ℕ)
      → ReadsInside major reads never_empty xs ps n c → 1 ≤ n
  inside_positive xs ps n c (inl h) =
      omega (arith, h.size, (head_read [] major 8 xs (length ps) h.before small h.head).2)
  inside_positive xs ps n c (inr h) = omega (arith, h.size)

  pub sequence_positive : (xs : List ℕ) (ps : List P) (n c : ℕ)
      → ReadsSequence major reads never_empty xs ps n c → 1 ≤ n
  sequence_positive xs ps n c h = inside_positive xs ps n h.0 h.1

  module _ (within : StaysWithin reads)
      (alone : StandsAlone reads)
      (positive : IsTrue never_empty → TakesSome reads) where
    definite_alone : (xs ys : List ℕ) (ps : List P) (n c : ℕ)
        → ReadsDefiniteElements major reads xs ps n c
        → ReadsDefiniteElements major reads (take n xs ++ ys) ps n c
    definite_alone xs ys ps n c h =
        let k = head_kept major 8 xs ys (length ps) h.before h.between n small h.head h.size in
        record {
          before = h.before;
          head = k.0;
          between = h.between;
          parts =
              subst (λ zs. ReadsElements reads zs ps h.between c) (sym k.1)
              (parts_alone reads within alone (drop h.before xs) ys ps h.between c h.parts);
          size = h.size;
        }

    indefinite_alone : (xs ys : List ℕ) (ps : List P) (n c : ℕ)
        → ReadsIndefiniteElements major reads never_empty xs ps n c
        → ReadsIndefiniteElements major reads never_empty (take n xs ++ ys) ps n c
    indefinite_alone xs ys ps n c h =
        let room = inside_within within xs ps n c (inr h) in
        let tail = take h.between (drop 1 xs) ++ ys in
        let left : drop 1 (take n xs ++ ys) ≡ tail =
        ap (drop 1) (two_prefixes 1 h.between n xs ys h.size)
        ∙ after_prefix 1 xs tail (one_byte xs _ h.begins) in
        record {
          begins = first_kept n xs ys (omega (arith, h.size)) room ∙ h.begins;
          between = h.between;
          parts =
              subst (λ zs. ReadsUpToBreak reads never_empty zs ps h.between c) (sym left)
              (until_alone reads within alone never_empty positive (drop 1 xs) ys ps h.between c
              h.parts);
          size = h.size;
        }

    inside_alone : (xs ys : List ℕ) (ps : List P) (n c : ℕ)
        → ReadsInside major reads never_empty xs ps n c
        → ReadsInside major reads never_empty (take n xs ++ ys) ps n c
    inside_alone xs ys ps n c (inl h) = inl (definite_alone xs ys ps n c h)
    inside_alone xs ys ps n c (inr h) = inr (indefinite_alone xs ys ps n c h)

    pub sequence_alone : (xs ys : List ℕ) (ps : List P) (n c : ℕ)
        → ReadsSequence major reads never_empty xs ps n c
        → ReadsSequence major reads never_empty (take n xs ++ ys) ps n c
    sequence_alone xs ys ps n c h = (h.0, inside_alone xs ys ps n h.0 h.1, h.2)

-- ---- the laws, as one

pub sequence_lawful : {P : Type 0} (name : List ℕ) (major : ℕ) → major < 8 → (s : Format P)
    → IsLawful s → IsLawful (sequence_format name major s)
sequence_lawful name major small s h = record {
  one = λ xs v w.
      sequence_one major small s.reads s.never_empty s.same h.one xs v.items w.items;
  within = λ xs v. sequence_within major small s.reads s.never_empty h.within xs v.items;
  positive = λ some xs v. sequence_positive major small s.reads s.never_empty xs v.items;
  alone = λ closed xs ys v.
      sequence_alone major small s.reads s.never_empty h.within (h.alone closed) h.positive xs ys
      v.items;
}

pub array_lawful : {V : Type 0} (s : Format V) → IsLawful s → IsLawful (array_format s)
array_lawful s h = sequence_lawful (codes "array") 4 (omega arith) s h

-- ---- pairs

pub either : (a b : Bool) → IsTrue (a || b) → IsTrue a ⊎ IsTrue b
either true b e = inl refl
either false b e = inr e

module _ {K V : Type 0} (key_reads : Reads K) (value_reads : Reads V) where
  pair_one : (same_key : K → K → Type 0) (same_value : V → V → Type 0)
      → IsOneReading key_reads same_key → IsOneReading value_reads same_value
      → (xs : List ℕ) (p q : K × V) (n m c d : ℕ) → ReadsPair key_reads value_reads xs p n c
      → ReadsPair key_reads value_reads xs q m d
      → (n ≡ m) × (c ≡ d) × SamePair same_key same_value p q
  pair_one same_key same_value one_key one_value xs p q n m c d g h =
      let k = one_key xs p.0 q.0 g.key_size h.key_size g.key_cost h.key_cost g.key h.key in
      let v = one_value (drop g.key_size xs) p.1 q.1 g.value_size h.value_size g.value_cost
      h.value_cost g.value
      (subst (λ j. value_reads (drop j xs) q.1 h.value_size h.value_cost) (sym k.0) h.value) in (
        omega (arith, g.size, h.size, k.0, v.0),
        same_max c d g.key_cost h.key_cost g.value_cost
            h.value_cost g.cost h.cost k.1 v.1,
        (k.2, v.2),
      )

  pub pair_within : StaysWithin key_reads → StaysWithin value_reads
      → (xs : List ℕ) (p : K × V) (n c : ℕ) → ReadsPair key_reads value_reads xs p n c
      → n ≤ length xs
  pair_within key_within value_within xs p n c h = search (rules, length-drop)

  pub pair_positive : (key_some value_some : Bool) → (IsTrue key_some → TakesSome key_reads)
      → (IsTrue value_some → TakesSome value_reads) → IsTrue (key_some || value_some)
      → (xs : List ℕ) (p : K × V) (n c : ℕ) → ReadsPair key_reads value_reads xs p n c → 1 ≤ n
  pair_positive key_some value_some key_positive value_positive e xs p n c h =
      search (rules, either, inl, inr)

  pair_alone : StaysWithin key_reads → StandsAlone key_reads → StandsAlone value_reads
      → (xs ys : List ℕ) (p : K × V) (n c : ℕ) → ReadsPair key_reads value_reads xs p n c
      → ReadsPair key_reads value_reads (take n xs ++ ys) p n c
  pair_alone key_within key_alone value_alone xs ys p n c h =
      let trailing = drop h.key_size xs in
      let tail = take h.value_size trailing ++ ys in
      let whole : take n xs ++ ys ≡ take h.key_size xs ++ tail =
      two_prefixes h.key_size h.value_size n xs ys h.size in
      let left : drop h.key_size (take n xs ++ ys) ≡ tail = ap (drop h.key_size) whole
      ∙ after_prefix h.key_size xs tail (key_within xs p.0 h.key_size h.key_cost h.key) in
      record {
        key_size = h.key_size;
        key_cost = h.key_cost;
        key =
            subst (λ zs. key_reads zs p.0 h.key_size h.key_cost) (sym whole)
            (key_alone xs tail p.0 h.key_size h.key_cost h.key);
        value_size = h.value_size;
        value_cost = h.value_cost;
        value =
            subst (λ zs. value_reads zs p.1 h.value_size h.value_cost) (sym left)
            (value_alone trailing ys p.1 h.value_size h.value_cost h.value);
        size = h.size;
        cost = h.cost;
      }

pub pair_lawful : {K V : Type 0} (k : Format K) (v : Format V) → IsLawful k → IsLawful v
    → IsLawful (pair_format k v)
pair_lawful k v g h = record {
  one = pair_one k.reads v.reads k.same v.same g.one h.one;
  within = pair_within k.reads v.reads g.within h.within;
  positive = pair_positive k.reads v.reads k.never_empty v.never_empty g.positive h.positive;
  alone = λ closed.
      let e = both k.closed v.closed closed in
      pair_alone k.reads v.reads g.within (g.alone e.0) (h.alone e.1);
}

pub map_lawful : {K V : Type 0} (k : Format K) (v : Format V) → IsLawful k → IsLawful v
    → IsLawful (map_format k v)
map_lawful k v g h = search (rules, lawful_by, sequence_lawful, pair_lawful)
