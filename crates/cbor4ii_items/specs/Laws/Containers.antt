-- An optional item and a tagged item are read as their item is.
use Rattle.std.proofs.Common.{◌≡◌, ℕ, zero, suc, ◌≤◌, inl, inr, List, [], ◌∷◌, ◌++◌, length, drop}
use Rattle.std.proofs.Common.{take, Option, Some, None, Bool, true, IsTrue, refl, sym, ◌∙◌, subst}
use Rattle.std.proofs.Common.{arith, ◌≢◌, rules}
use Rattle.std.specs.Prelude.{◌&&◌, Box}
use Rattle.std.proofs.lemmas.List.{length-drop}
use Rattle.cbor4ii_items.specs.Containers.{BeginsNull, ReadsOption, SameOption, RejectsOption}
use Rattle.cbor4ii_items.specs.Containers.{ReadsTag, RejectsTag}
use Rattle.cbor4ii_items.specs.declared.types.Tag.{Tag}
use Rattle.cbor4ii_items.specs.Laws.Lawful.{IsOneReading, StaysWithin, TakesSome, head_kept}
use Rattle.cbor4ii_items.specs.Decoding.{Format, IsLawful, format_by, taking_memory, Reads}
use Rattle.cbor4ii_items.specs.Decoding.{NoneRead}
use Rattle.cbor4ii_items.specs.Laws.Formats.{lawful_by, lawful_in_memory}
use Rattle.std.specs.declared.alloc.Global.{Global}
use Rattle.cbor4ii_items.specs.Laws.Heads.{head_one, head_read}
use Rattle.cbor4ii_items.specs.Budget.{CostFits}

-- ---- an item or none

null_or_not : {A : Type 0} (xs : List ℕ) → BeginsNull xs → (BeginsNull xs → ⊥) → A
null_or_not xs p q = absurd (q p)

pub not_null : (xs : List ℕ) (b : ℕ) → take 1 xs ≡ b ∷ [] → b ≢ 0xf6 → b ≢ 0xf7 → BeginsNull xs → ⊥
not_null xs b e p q h =
    elim h [ inl f ↦ (let g : b ≡ 0xf6 = cc in p g) | inr f ↦ (let g : b ≡ 0xf7 = cc in q g) ]

pub no_option : {V : Type 0} (reads : Reads V) (xs : List ℕ) (old new : Option ℕ) → old ≡ new
    → (BeginsNull xs → ⊥) → NoneRead reads xs old → (o : Option V) (k c : ℕ)
    → ReadsOption reads xs o k c → CostFits c new → ⊥
no_option reads xs old new e n h None k c r fits = n r.0
no_option reads xs old new e n h (Some v) k c r fits = h v k c r.2 (subst (CostFits c) (sym e) fits)

pub option_one : {V : Type 0} (reads : Reads V) (same : V → V → Type 0) → IsOneReading reads same
    → (xs : List ℕ) (v w : Option V) (n m c d : ℕ) → ReadsOption reads xs v n c
    → ReadsOption reads xs w m d → (n ≡ m) × (c ≡ d) × SameOption same v w
option_one reads same one xs None None n m c d p q = (p.1 ∙ sym q.1, p.2 ∙ sym q.2, tt)
option_one reads same one xs None (Some w) n m c d p q = null_or_not xs p.0 q.0
option_one reads same one xs (Some v) None n m c d p q = null_or_not xs q.0 p.0
option_one reads same one xs (Some v) (Some w) n m c d p q = one xs v w n m c d p.2 q.2

null_long : (xs : List ℕ) → BeginsNull xs → 1 ≤ length xs
null_long [] h = elim h [ inl e ↦ cc | inr e ↦ cc ]
null_long (x ∷ xs) h = omega arith

pub option_within : {V : Type 0} (reads : Reads V) → StaysWithin reads
    → (xs : List ℕ) (v : Option V) (n c : ℕ) → ReadsOption reads xs v n c → n ≤ length xs
option_within reads within xs None n c p = omega (arith, p.1, null_long xs p.0)
option_within reads within xs (Some v) n c p = within xs v n c p.2

pub option_positive : {V : Type 0} (reads : Reads V) (never_empty : Bool)
    → (IsTrue never_empty → TakesSome reads) → IsTrue never_empty
    → (xs : List ℕ) (v : Option V) (n c : ℕ) → ReadsOption reads xs v n c → 1 ≤ n
option_positive reads never_empty positive e xs None n c p = omega (arith, p.1)
option_positive reads never_empty positive e xs (Some v) n c p = positive e xs v n c p.2

pub both : (a b : Bool) → IsTrue (a && b) → IsTrue a × IsTrue b
both true true e = (refl, refl)
both _ _ e = cc

-- a prefix with at least one byte has the first byte
pub first_kept : (n : ℕ) (xs ys : List ℕ) → 1 ≤ n → n ≤ length xs
    → take 1 (take n xs ++ ys) ≡ take 1 xs
first_kept zero xs ys some within = absurd (omega arith)
first_kept (suc n) [] ys some within = absurd (omega arith)
first_kept (suc n) (x ∷ xs) ys some within = refl

null_kept : (xs ys : List ℕ) → take 1 xs ≡ take 1 ys → BeginsNull ys → BeginsNull xs
null_kept xs ys e h = elim h [ inl p ↦ inl (e ∙ p) | inr p ↦ inr (e ∙ p) ]

some_byte : (n : ℕ) (xs ys : List ℕ) → 1 ≤ n → n ≤ length xs → 1 ≤ length (take n xs ++ ys)
some_byte zero xs ys some within = absurd (omega arith)
some_byte (suc n) [] ys some within = absurd (omega arith)
some_byte (suc n) (x ∷ xs) ys some within = omega arith

pub option_alone : {V : Type 0} (reads : Reads V) (closed never_empty : Bool)
    → StaysWithin reads
    → (IsTrue never_empty → TakesSome reads)
    → (IsTrue closed → (xs ys : List ℕ) (v : V) (n c : ℕ) → reads xs v n c
    → reads (take n xs ++ ys) v n c)
    → IsTrue (closed && never_empty) → (xs ys : List ℕ) (v : Option V) (n c : ℕ)
    → ReadsOption reads xs v n c → ReadsOption reads (take n xs ++ ys) v n c
option_alone reads closed never_empty within positive alone e xs ys None n c p = search rules
option_alone reads closed never_empty within positive alone e xs ys (Some v) n c p =
    search (rules, null_kept, first_kept, some_byte)

-- ---- a tagged item

module _ {V : Type 0} (reads : Reads V) where
  pub tag_one : (same : V → V → Type 0) → IsOneReading reads same
      → (xs : List ℕ) (i : ℕ) (v : V) (j : ℕ) (w : V) (n m c d : ℕ) → ReadsTag reads xs i v n c
      → ReadsTag reads xs j w m d → (n ≡ m) × (c ≡ d) × ((i ≡ j) × same v w)
  tag_one same one xs i v j w n m c d p q =
      let h = head_one 6 8 xs i j p.before q.before (omega arith) p.head q.head in
      let o = one (drop p.before xs) v w p.count q.count c d p.item
      (subst (λ k. reads (drop k xs) w q.count d) (sym h.0) q.item) in
      (omega (arith, p.bytes, q.bytes, h.0, o.0), o.1, (h.1, o.2))

  pub tag_within : StaysWithin reads → (xs : List ℕ) (i : ℕ) (v : V) (n c : ℕ)
      → ReadsTag reads xs i v n c → n ≤ length xs
  tag_within within xs i v n c p = search (rules, head_read, length-drop)

  pub tag_positive : (xs : List ℕ) (i : ℕ) (v : V) (n c : ℕ) → ReadsTag reads xs i v n c → 1 ≤ n
  tag_positive xs i v n c p =
      omega (arith, p.bytes, (head_read [] 6 8 xs i p.before (omega arith) p.head).2)

  pub tag_alone : (closed : Bool) → (IsTrue closed → (xs ys : List ℕ) (v : V) (n c : ℕ)
      → reads xs v n c → reads (take n xs ++ ys) v n c) → IsTrue closed
      → (xs ys : List ℕ) (i : ℕ) (v : V) (n c : ℕ) → ReadsTag reads xs i v n c
      → ReadsTag reads (take n xs ++ ys) i v n c
  tag_alone closed alone e xs ys i v n c p =
      let h = head_kept 6 8 xs ys i p.before p.count n (omega arith) p.head p.bytes in
      record {
        before = p.before;
        head = h.0;
        count = p.count;
        item = subst (λ zs. reads zs v p.count c) (sym h.1)
            (alone e (drop p.before xs) ys v p.count c p.item);
        bytes = p.bytes;
      }

abbrev pub option_format : {V : Type 0} → Format V → Format (Option V)
option_format s = record {
  reads = ReadsOption s.reads;
  same = SameOption s.same;
  rejects = RejectsOption s.rejects;
  begins = RejectsOption s.begins;
  never_empty = s.never_empty;
  owned = s.owned;
  takes_memory = s.takes_memory;
  closed = s.closed && s.never_empty;
}

pub option_lawful : {V : Type 0} (s : Format V) → IsLawful s → IsLawful (option_format s)
option_lawful s h = record {
  one = option_one s.reads s.same h.one;
  within = option_within s.reads h.within;
  positive = option_positive s.reads s.never_empty h.positive;
  alone = option_alone s.reads s.closed s.never_empty h.within h.positive h.alone;
}

abbrev pub tag_format : {V : Type 0} → Format V → Format (Tag V)
tag_format s = record {
  reads = λ xs v. ReadsTag s.reads xs v.0 v.1;
  same = λ v w. (v.0 ≡ w.0) × s.same v.1 w.1;
  rejects = RejectsTag s.rejects;
  begins = RejectsTag s.begins;
  never_empty = true;
  owned = s.owned;
  takes_memory = s.takes_memory;
  closed = s.closed;
}

-- a tag's laws come from those of its part
pub tag_lawful : {V : Type 0} (s : Format V) → IsLawful s → IsLawful (tag_format s)
tag_lawful s h = record {
  one = λ xs v w. tag_one s.reads s.same h.one xs v.0 v.1 w.0 w.1;
  within = λ xs v. tag_within s.reads h.within xs v.0 v.1;
  positive = λ some xs v. tag_positive s.reads xs v.0 v.1;
  alone = λ e xs ys v. tag_alone s.reads s.closed h.alone e xs ys v.0 v.1;
}

-- ---- an item in a box

abbrev pub boxed_format : {V : Type 0} → Format V → Format (Box V Global)
boxed_format s = format_by (λ b. b.value) (taking_memory s)

pub boxed_lawful : {V : Type 0} (s : Format V) → IsLawful s → IsLawful (boxed_format s)
boxed_lawful s h = lawful_by (λ b. b.value) (taking_memory s) (lawful_in_memory s h)
