-- What is left where the first of some bytes are taken, and the others move to the front.
use Rattle.std.proofs.Common.{◌≡◌, ℕ, ◌+◌, ◌-◌, ◌≤◌, List, length, take, drop, sym, ap, ◌∙◌, arith}
use Rattle.std.proofs.Common.{length-drop}
use lib.Seq.{paste}
use Rattle.std.proofs.lemmas.List.{drop-take}
use Rattle.std.proofs.lemmas.List.Edits.{take-paste}

pub moved : (n m k : ℕ) (xs ys : List ℕ) → ys ≡ paste xs 0 (drop n xs) (m - n) → k + n ≡ m
    → m ≤ length xs → take k ys ≡ drop n (take m xs)
moved n m k xs ys is sum within =
    let less : m - n ≡ 0 + k = omega (arith, sum) in
    let none : k ≡ 0 + k = omega arith in
    let all : n + k ≡ m = omega (arith, sum) in
    ap (take k) is ∙ ap (λ j. take k (paste xs 0 (drop n xs) j)) (less ∙ sym none)
    ∙ ap (λ j. take j (paste xs 0 (drop n xs) k)) none
    ∙ take-paste xs 0 (drop n xs) k (omega arith) (omega (arith, sum, within, length-drop n xs))
    ∙ sym (drop-take n k xs) ∙ ap (λ j. drop n (take j xs)) all
