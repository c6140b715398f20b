-- Prefixes of bytes, one after another.
use Rattle.std.proofs.Common.{◌≡◌, ℕ, zero, suc, ◌+◌, ◌≤◌, List, [], ◌∷◌, ◌++◌, length, drop, take}
use Rattle.std.proofs.Common.{refl, sym, ap, ◌∙◌, append_assoc, arith, rules}
use Rattle.std.proofs.Math.Seq.{drop-nil, take-add, take-append_seam, drop-append_seam}
use Rattle.std.proofs.lemmas.List.{length-take-le}

pub drop_more : (m n : ℕ) (xs : List ℕ) → drop m (drop n xs) ≡ drop (n + m) xs
drop_more m zero xs = let e : 0 + m ≡ m = omega arith in rw e refl
drop_more m (suc n) [] = drop-nil m ∙ sym (drop-nil (suc n + m))
drop_more m (suc n) (x ∷ xs) =
    let e : suc n + m ≡ suc (n + m) = omega arith in rw e (drop_more m n xs)

-- a prefix of two parts, with other bytes after it
pub two_prefixes : (i k n : ℕ) (xs ys : List ℕ) → n ≡ i + k
    → take n xs ++ ys ≡ take i xs ++ (take k (drop i xs) ++ ys)
two_prefixes i k n xs ys e = search (rules, take-add, append_assoc)

-- what follows a prefix
pub after_prefix : (i : ℕ) (xs ys : List ℕ) → i ≤ length xs → drop i (take i xs ++ ys) ≡ ys
after_prefix i xs ys h =
    ap (λ j. drop j (take i xs ++ ys)) (sym (length-take-le i xs h))
    ∙ drop-append_seam (take i xs) ys

-- the prefix itself
pub the_prefix : (i : ℕ) (xs ys : List ℕ) → i ≤ length xs → take i (take i xs ++ ys) ≡ take i xs
the_prefix i xs ys h =
    ap (λ j. take j (take i xs ++ ys)) (sym (length-take-le i xs h))
    ∙ take-append_seam (take i xs) ys
