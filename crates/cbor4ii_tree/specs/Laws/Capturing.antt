-- One input is captured in one way.
use Rattle.std.proofs.Common.{◌≡◌, ℕ, ◌≤◌, List, ◌++◌, length, take, refl, sym, ap, ◌∙◌, rules}
use Rattle.std.proofs.{lemmas.List.length-take-le, Math.Seq.take-append_seam}
use Rattle.cbor4ii_tree.specs.Laws.Ignoring.{tree_one, tree_within, tree_positive, tree_alone}
use Rattle.cbor4ii_tree.specs.{Calls.Raw.{ReadsRaw, raw_format}, Calls.BoxedRaw.boxed_content}
use Rattle.cbor4ii_tree.specs.Calls.BoxedRaw.{boxed_raw_format}
use Rattle.cbor4ii_tree.specs.declared.plain_raw.PlainRawValue.{PlainRawValue}
use Rattle.cbor4ii_tree.specs.Calls.PlainRaw.{ReadsPlainRaw, plain_raw_content, plain_raw_format}
use Rattle.cbor4ii_tree.specs.Laws.Values.{value_one, value_alone, value_positive}
use Rattle.cbor4ii_items.specs.{Laws.Formats.lawful_in_memory, Decoding.IsLawful}

pub raw_one : {V : Type 0} (content : V → List ℕ) (xs : List ℕ) (v w : V) (n m c d : ℕ)
    → ReadsRaw content xs v n c → ReadsRaw content xs w m d
    → (n ≡ m) × (c ≡ d) × (content v ≡ content w)
raw_one content xs v w n m c d p q =
    let s = tree_one xs n m c d p.0 q.0 in
    (s.0, s.1, p.1 ∙ (ap (λ j. take j xs) s.0 ∙ sym q.1))

pub raw_within : {V : Type 0} (content : V → List ℕ) (xs : List ℕ) (v : V) (n c : ℕ)
    → ReadsRaw content xs v n c → n ≤ length xs
raw_within content xs v n c p = tree_within xs n c p.0

pub raw_positive : {V : Type 0} (content : V → List ℕ) (xs : List ℕ) (v : V) (n c : ℕ)
    → ReadsRaw content xs v n c → 1 ≤ n
raw_positive content xs v n c p = tree_positive xs n c p.0

pub raw_alone : {V : Type 0} (content : V → List ℕ) (xs ys : List ℕ) (v : V) (n c : ℕ)
    → ReadsRaw content xs v n c → ReadsRaw content (take n xs ++ ys) v n c
raw_alone content xs ys v n c p =
    search (rules, length-take-le, tree_within, tree_alone, take-append_seam)

pub raw_lawful : {V : Type 0} (content : V → List ℕ) → IsLawful (raw_format content)
raw_lawful content = search (rules, raw_one, raw_within, raw_positive, raw_alone)

pub boxed_raw_lawful : IsLawful boxed_raw_format
boxed_raw_lawful = lawful_in_memory (raw_format boxed_content) (raw_lawful boxed_content)

-- ---- read as a value

pub plain_raw_one : (xs : List ℕ) (p q : PlainRawValue) (n m c d : ℕ)
    → ReadsPlainRaw xs p n c → ReadsPlainRaw xs q m d
    → (n ≡ m) × (c ≡ d) × (plain_raw_content p ≡ plain_raw_content q)
plain_raw_one xs p q n m c d r s =
    let e = value_one xs r.0 s.0 n m c d r.1.0 s.1.0 in
    (e.0, e.1, r.1.1 ∙ (ap (λ j. take j xs) e.0 ∙ sym s.1.1))

pub plain_raw_alone : (xs ys : List ℕ) (p : PlainRawValue) (n c : ℕ)
    → ReadsPlainRaw xs p n c → ReadsPlainRaw (take n xs ++ ys) p n c
plain_raw_alone xs ys p n c r =
    let t = take n xs in
    let size : length t ≡ n = length-take-le n xs r.1.0.within in (
      r.0,
      (
        value_alone refl xs ys r.0 n c r.1.0,
        r.1.1 ∙ (sym (take-append_seam t ys) ∙ ap (λ j. take j (t ++ ys)) size),
      ),
    )

pub plain_raw_lawful : IsLawful plain_raw_format
plain_raw_lawful = record {
  one = plain_raw_one;
  within = λ xs p n c r. r.1.0.within;
  positive = λ some xs p n c r. value_positive refl xs r.0 n c r.1.0;
  alone = λ closed. plain_raw_alone;
}
