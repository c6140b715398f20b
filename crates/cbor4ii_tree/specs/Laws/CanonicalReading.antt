-- One input is read canonically in one way, since no loose tree begins another.
use Rattle.std.proofs.Common.{rules}
use Rattle.std.proofs.Common.{◌≡◌, ℕ, ◌≤◌, List, ◌++◌, length, take, IsTrue, true, sym, ap, ◌∙◌}
use Rattle.std.proofs.{Common.{subst, arith, length-append}, lemmas.List.length-take-le}
use Rattle.std.proofs.Math.Seq.{take-append_seam}
use Rattle.cbor4ii_tree.specs.{declared.decode_canonical.Canonical.Canonical, Basis.Item.Item}
use Rattle.cbor4ii_tree.specs.{Calls.CanonicalShape.EncodesCanonically, Basis.View.view}
use Rattle.cbor4ii_tree.specs.{Calls.Promises.ReadsValue, Calls.Canonically.ReadsCanonicalItem}
use Rattle.cbor4ii_tree.specs.Calls.Canonically.{ReadsCanonical, canonical_format}
use Rattle.cbor4ii_tree.specs.Laws.Values.{value_one, value_positive}
use Rattle.cbor4ii_items.specs.Decoding.{IsLawful}

-- what is read canonically is read as a value
as_value : (xs : List ℕ) (v : Item) (n c : ℕ) → ReadsCanonicalItem xs v n c → ReadsValue xs v n c
as_value xs v n c p = search rules

pub canonical_one : (xs : List ℕ) (v w : Canonical) (n m c d : ℕ) → ReadsCanonical xs v n c
    → ReadsCanonical xs w m d → (n ≡ m) × (c ≡ d) × (view v.0 ≡ view w.0)
canonical_one xs v w n m c d p q =
    value_one xs v.0 w.0 n m c d (as_value xs (view v.0) n c p) (as_value xs (view w.0) m d q)

pub canonical_within : (xs : List ℕ) (v : Canonical) (n c : ℕ) → ReadsCanonical xs v n c
    → n ≤ length xs
canonical_within xs v n c p = p.within

pub canonical_positive : IsTrue true → (xs : List ℕ) (v : Canonical) (n c : ℕ)
    → ReadsCanonical xs v n c → 1 ≤ n
canonical_positive e xs v n c p = value_positive e xs v.0 n c (as_value xs (view v.0) n c p)

pub canonical_alone : IsTrue true → (xs ys : List ℕ) (v : Canonical) (n c : ℕ)
    → ReadsCanonical xs v n c → ReadsCanonical (take n xs ++ ys) v n c
canonical_alone e xs ys v n c p =
    let long : length (take n xs) ≡ n = length-take-le n xs p.within in
    let prefix : take n (take n xs ++ ys) ≡ take n xs =
    ap (λ j. take j (take n xs ++ ys)) (sym long) ∙ take-append_seam (take n xs) ys in
    record {
      within = omega (arith, length-append (take n xs) ys, long);
      encodes = subst (λ z. EncodesCanonically z (view v.0) c) (sym prefix) p.encodes;
    }

pub canonical_lawful : IsLawful canonical_format
canonical_lawful = search (rules, canonical_one, canonical_within, canonical_positive, canonical_alone)
