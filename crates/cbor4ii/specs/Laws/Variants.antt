-- A variant is read in one way, where its unit variants and its contents are.
use Rattle.std.proofs.Common.{◌≡◌, ◌⊎◌, inl, inr, ℕ, ◌≤◌, List, [], ◌∷◌, length, drop}
use Rattle.std.proofs.Common.{take, Bool, true, ap, subst, arith, rules}
use Rattle.std.proofs.lemmas.List.{length-drop, length-take}
use Rattle.cbor4ii_items.specs.Decoding.{Reads}
use Rattle.cbor4ii_items.specs.Sequences.{ReadsPair, SamePair}
use Rattle.cbor4ii_items.specs.Strings.{ReadsText}
use Rattle.cbor4ii_items.specs.Laws.Heads.{additional-lt}
use Rattle.cbor4ii_items.specs.Laws.Strings.{text_one, text_within, text_positive}
use Rattle.cbor4ii.specs.Stepped.{stepped_laws}
use Rattle.cbor4ii.specs.Tuples.{pair_laws}
use Rattle.cbor4ii.specs.Typed.{IsLawfulReading, not_exact}
use Rattle.cbor4ii.specs.Variants.{ReadsUnitVariant, ReadsPairVariant, ReadsVariant}

-- a text does not begin as a map of one pair
text_no_entry : (xs name : List ℕ) (n c : ℕ) → ReadsText xs name n c → take 1 xs ≡ 0xa1 ∷ [] → ⊥
text_no_entry xs name n c (inl h, utf8) e = search (rules, additional-lt)
text_no_entry xs name n c (inr h, utf8) e = search rules

text_laws : IsLawfulReading ReadsText (λ (v w : List ℕ). v ≡ w) true
text_laws = record {
  one = text_one (λ (name : List ℕ). name);
  within = text_within (λ (name : List ℕ). name);
  positive = λ e. text_positive (λ (name : List ℕ). name);
  alone = not_exact;
}

module _ {V : Type 0} (units : List ℕ → V → Type 0) (contents : List ℕ → Reads V)
    (same : V → V → Type 0) {never_empty : Bool}
    (unit_one : (name : List ℕ) (v w : V) → units name v → units name w → same v w)
    (laws : (name : List ℕ) → IsLawfulReading (contents name) same never_empty) where
  name_laws : (name : List ℕ)
      → IsLawfulReading (ReadsPair ReadsText (contents name)) (SamePair (λ (v w : List ℕ). v ≡ w)
      same) true
  name_laws name =
      pair_laws ReadsText (contents name) (λ (v w : List ℕ). v ≡ w) same true never_empty
      text_laws (laws name)

  unit_variant_one : (xs : List ℕ) (v w : V) (n m c d : ℕ) → ReadsUnitVariant units xs v n c
      → ReadsUnitVariant units xs w m d → (n ≡ m) × (c ≡ d) × same v w
  unit_variant_one xs v w n m c d p q =
      let e = text_laws.one xs p.0 q.0 n m c d p.1 q.1 in
      (e.0, e.1, unit_one q.0 v w (subst (λ name. units name v) e.2 p.2) q.2)

  entry_variant_one : (xs : List ℕ) (v w : V) (n m c d : ℕ) → ReadsPairVariant contents xs v n c
      → ReadsPairVariant contents xs w m d → (n ≡ m) × (c ≡ d) × same v w
  entry_variant_one xs v w n m c d p q =
      let is = (text_laws.one (drop 1 xs) p.1 q.1 p.3.key_size q.3.key_size p.3.key_cost
      q.3.key_cost p.3.key q.3.key).2 in
      let e = (name_laws q.1).one (drop 1 xs) (p.1, v) (q.1, w) p.2 q.2 c d
      (subst (λ name. ReadsPair ReadsText (contents name) (drop 1 xs) (p.1, v) p.2 c) is p.3)
      q.3 in
      (omega (arith, p.4, q.4, e.0), e.1, e.2.1)

  variant_one : (xs : List ℕ) (v w : V) (n m c d : ℕ)
      → ReadsUnitVariant units xs v n c ⊎ ReadsPairVariant contents xs v n c
      → ReadsUnitVariant units xs w m d ⊎ ReadsPairVariant contents xs w m d
      → (n ≡ m) × (c ≡ d) × same v w
  variant_one xs v w n m c d (inl p) (inl q) = unit_variant_one xs v w n m c d p q
  variant_one xs v w n m c d (inl p) (inr q) = absurd (text_no_entry xs p.0 n c p.1 q.0)
  variant_one xs v w n m c d (inr p) (inl q) = absurd (text_no_entry xs q.0 m d q.1 p.0)
  variant_one xs v w n m c d (inr p) (inr q) = entry_variant_one xs v w n m c d p q

  variant_within : (xs : List ℕ) (v : V) (n c : ℕ)
      → ReadsUnitVariant units xs v n c ⊎ ReadsPairVariant contents xs v n c → n ≤ length xs
  variant_within xs v n c (inl p) = text_laws.within xs p.0 n c p.1
  variant_within xs v n c (inr p) =
      omega (
        arith,
        p.4,
        (name_laws p.1).within (drop 1 xs) (p.1, v) p.2 c p.3,
        length-drop 1 xs,
        length-take 1 xs,
        ap length p.0,
      )

  variant_positive : (xs : List ℕ) (v : V) (n c : ℕ)
      → ReadsUnitVariant units xs v n c ⊎ ReadsPairVariant contents xs v n c → 1 ≤ n
  variant_positive xs v n c (inl p) = text_positive (λ (name : List ℕ). name) xs p.0 n c p.1
  variant_positive xs v n c (inr p) = omega (arith, p.4)

  -- A variant may be exact by it.
  pub variant_laws : IsLawfulReading (ReadsVariant units contents) same true
  variant_laws = stepped_laws (record {
    one = variant_one;
    within = variant_within;
    positive = λ e. variant_positive;
    alone = not_exact;
  })
