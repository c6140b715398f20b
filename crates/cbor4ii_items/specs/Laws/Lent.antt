-- Borrowed strings are read exactly as they are encoded.
use Rattle.std.proofs.Common.{◌≡◌, ℕ, ◌<◌, ◌≤◌, inl, List, ◌++◌, length, take, Bool}
use Rattle.cbor4ii_items.specs.Lent.{ReadsBorrowed, lent_format}
use Rattle.cbor4ii_items.specs.Decoding.{IsLawful}
use Rattle.cbor4ii_items.specs.Laws.Strings.{definite_within, definite_alone, string_one}

module _ {V : Type 0} (major : ℕ) (small : major < 8) (is_text : Bool) (content : V → List ℕ) where
  pub lent_one : (xs : List ℕ) (v w : V) (n k c d : ℕ) → ReadsBorrowed major is_text content
      xs v n c
      → ReadsBorrowed major is_text content xs w k d → (n ≡ k) × (c ≡ d) × (content v ≡ content w)
  lent_one xs v w n k c d p q =
      string_one major xs (content v) (content w) n k c d small (inl (p.0, p.1)) (inl (q.0, q.1))

  pub lent_within : (xs : List ℕ) (v : V) (n c : ℕ) → ReadsBorrowed major is_text content xs v n c
      → n ≤ length xs
  lent_within xs v n c p = (definite_within major xs (content v) n small p.0).0

  pub lent_positive : (xs : List ℕ) (v : V) (n c : ℕ) → ReadsBorrowed major is_text content xs v n c
      → 1 ≤ n
  lent_positive xs v n c p = (definite_within major xs (content v) n small p.0).1

  pub lent_alone : (xs ys : List ℕ) (v : V) (n c : ℕ) → ReadsBorrowed major is_text content xs v n c
      → ReadsBorrowed major is_text content (take n xs ++ ys) v n c
  lent_alone xs ys v n c p = (definite_alone major xs ys (content v) n small p.0, p.1, p.2)

pub lent_lawful : {V : Type 0} (name : List ℕ) (major : ℕ) → major < 8 → (is_text : Bool)
    → (content : V → List ℕ) → IsLawful (lent_format name major is_text content)
lent_lawful name major small is_text content = record {
  one = lent_one major small is_text content;
  within = lent_within major small is_text content;
  positive = λ some. lent_positive major small is_text content;
  alone = λ closed. lent_alone major small is_text content;
}
