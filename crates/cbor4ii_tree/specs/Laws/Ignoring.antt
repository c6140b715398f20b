-- One input is skipped in one way.
use Rattle.std.proofs.Common.{◌≡◌, ℕ, None, Ok, subst, ◌≤◌, List, ◌++◌, length, take, drop}
use Rattle.std.proofs.Common.{IsTrue, true, refl, sym, ap, ◌∙◌, arith, length-append, rules}
use Rattle.std.proofs.Math.Seq.{take-append_seam, drop-append_seam}
use Rattle.cbor4ii_items.specs.Decoding.{IsLawful, leaf_format}
use Rattle.cbor4ii_tree.specs.{declared.ignored.IgnoredAny.IgnoredAny}
use Rattle.cbor4ii_tree.specs.{Calls.Ignored.{ReadsTree, ReadsIgnored}, Laws.Binds.answer_parts}
use Rattle.cbor4ii_tree.specs.Calls.SkippingRejects.{SkippingRejects}
use Rattle.cbor4ii_tree.specs.{Laws.Initials.length-bytes-pos, Laws.ItemAgain.item_again}
use Rattle.cbor4ii_tree.specs.{Laws.Profiles.skipping_lawful, Calls.Skip.skip, Basis.Tree.Tree}
use Rattle.cbor4ii_tree.specs.Basis.Tree.{bytes, Loose}

encoding_again : (t : Tree) (x : List ℕ) → Loose t → skip None (bytes t ++ x) ≡ Ok (t, x)
encoding_again t x l = search (rules, item_again, skipping_lawful)

pub one_encoding : (t u : Tree) (x y : List ℕ) → Loose t → Loose u → bytes t ++ x ≡ bytes u ++ y
    → (t ≡ u) × (x ≡ y)
one_encoding t u x y l m e =
    answer_parts (skip None (bytes t ++ x)) t u x y (encoding_again t x l)
    (subst (λ (z : List ℕ). skip None z ≡ Ok (u, y)) (sym e) (encoding_again u y m))

-- ---- a tree at the beginning

pub tree_one : (xs : List ℕ) (n m c d : ℕ) → ReadsTree xs n c → ReadsTree xs m d → (n ≡ m) × (c ≡ d)
tree_one xs n m c d p q = search (rules, one_encoding)

pub tree_within : (xs : List ℕ) (n c : ℕ) → ReadsTree xs n c → n ≤ length xs
tree_within xs n c p =
    omega (arith, ap length p.begins, length-append (bytes p.of_tree) (drop n xs), p.size)

pub tree_positive : (xs : List ℕ) (n c : ℕ) → ReadsTree xs n c → 1 ≤ n
tree_positive xs n c p = omega (arith, p.size, length-bytes-pos p.of_tree)

-- its bytes are the first n
pub tree_prefix : (xs : List ℕ) (n c : ℕ) (p : ReadsTree xs n c) → take n xs ≡ bytes p.of_tree
tree_prefix xs n c p = search (rules, take-append_seam)

pub tree_alone : (xs ys : List ℕ) (n c : ℕ) → ReadsTree xs n c → ReadsTree (take n xs ++ ys) n c
tree_alone xs ys n c p =
    let t = bytes p.of_tree in
    let all : take n xs ++ ys ≡ t ++ ys = ap (λ z. z ++ ys) (tree_prefix xs n c p) in
    record {
      of_tree = p.of_tree;
      loose = p.loose;
      begins =
          all ∙ ap (λ z. t ++ z)
          (sym (ap (drop n) all ∙ ap (λ j. drop j (t ++ ys)) p.size ∙ drop-append_seam t ys));
      size = p.size;
      cost = p.cost;
    }

-- ---- of which nothing is kept

pub ignored_one : (xs : List ℕ) (v w : IgnoredAny) (n m c d : ℕ) → ReadsIgnored xs v n c
    → ReadsIgnored xs w m d → (n ≡ m) × (c ≡ d) × (v ≡ w)
ignored_one xs v w n m c d p q = let s = tree_one xs n m c d p q in (s.0, s.1, refl)

pub ignored_within : (xs : List ℕ) (v : IgnoredAny) (n c : ℕ) → ReadsIgnored xs v n c
    → n ≤ length xs
ignored_within xs v n c p = tree_within xs n c p

pub ignored_positive : IsTrue true → (xs : List ℕ) (v : IgnoredAny) (n c : ℕ)
    → ReadsIgnored xs v n c → 1 ≤ n
ignored_positive e xs v n c p = tree_positive xs n c p

pub ignored_alone : IsTrue true → (xs ys : List ℕ) (v : IgnoredAny) (n c : ℕ)
    → ReadsIgnored xs v n c → ReadsIgnored (take n xs ++ ys) v n c
ignored_alone e xs ys v n c p = tree_alone xs ys n c p

pub ignored_lawful : IsLawful (leaf_format ReadsIgnored SkippingRejects)
ignored_lawful = search (rules, ignored_one, ignored_within, ignored_positive, ignored_alone)
