-- The parts of the plain programs on lists. They compute, so that a row of bytes can be tried;
-- the laws tie them to trees and rejections.
use Rattle.std.specs.Prelude.{ℕ, zero, suc, ◌-◌, ◌%◌, ◌==◌, List, [], ◌∷◌, length, take, drop}
use Rattle.std.specs.Prelude.{Option, Some, None, Result, Ok, Err, nat_lt, if◌then◌else◌}
use Rattle.cbor4ii_items.specs.Head.{Width, in_first, one, two, four, eight, break}
use Rattle.cbor4ii_items.specs.{Magnitude.number_of, Reading.go_on}
use Rattle.cbor4ii_tree.specs.{Basis.Cost.Budget, Basis.InputError.{InputError, eof}}
use Rattle.cbor4ii_tree.specs.Basis.InputError.{depth_overflow, len_of, Small, break_name}
use Rattle.cbor4ii_tree.specs.Basis.Tree.{Tree, Trees, no_trees, tree, Pairs, no_pairs, pair}

-- what was read and the bytes after it, or the error and the bytes that are left then
abbrev pub Answer : Type 0 → Type 0
Answer A = Result (A × List ℕ) (InputError × List ℕ)

abbrev pub Parser : Type 0 → Type 0
Parser A = List ℕ → Answer A

infixl 10 ◌>>=◌
abbrev pub ◌>>=◌ : {A B : Type 0} → Answer A → (A × List ℕ → Answer B) → Answer B
first >>= next = go_on first (λ value left. next (value, left))

-- k bytes; where some are missing, as many are asked for
abbrev pub prefix_at : List ℕ → ℕ → Parser (List ℕ)
prefix_at name k bs =
    if nat_lt (length bs) k then Err (eof name (len_of (k - length bs)), []) else Ok
    (take k bs, drop k bs)

-- the number in k bytes; where only some are there, this says how many are asked for
abbrev pub number_of_width : (ℕ → ℕ → ℕ) → List ℕ → ℕ → Parser ℕ
number_of_width asks name k bs =
    if nat_lt (length bs) k then Err (eof name (len_of (asks k (length bs))), []) else Ok
    (number_of (take k bs), drop k bs)

-- the argument of a head whose initial byte is b
unfoldable pub parse_argument : (ℕ → ℕ → ℕ) → List ℕ → Width → ℕ → Parser ℕ
parse_argument asks name in_first b bs = Ok (b % 32, bs)
parse_argument asks name one b bs = number_of_width asks name 1 bs
parse_argument asks name two b bs = number_of_width asks name 2 bs
parse_argument asks name four b bs = number_of_width asks name 4 bs
parse_argument asks name eight b bs = number_of_width asks name 8 bs

-- the argument in this width; where some of its bytes are missing, all are asked for
abbrev pub argument_of_width : List ℕ → Width → ℕ → Parser ℕ
argument_of_width = parse_argument (λ k n. k)

-- what is parsed under one step more; where no step is left, these bytes are left
abbrev pub inside_step : {A : Type 0} → List ℕ → Option Budget → List ℕ → (Budget → Answer A)
    → Answer A
inside_step name None here next = Err (depth_overflow name, here)
inside_step name (Some inner) here next = next inner

unfoldable pub trees_at : Parser Tree → ℕ → Parser Trees
trees_at item zero bs = Ok (no_trees, bs)
trees_at item (suc n) bs = item bs >>= λ p. trees_at item n p.1 >>= λ q. Ok (tree p.0 q.0, q.1)

unfoldable pub pairs_at : Parser Tree → ℕ → Parser Pairs
pairs_at item zero bs = Ok (no_pairs, bs)
pairs_at item (suc n) bs =
    item bs >>= λ k. item k.1 >>= λ v. pairs_at item n v.1 >>= λ q. Ok (pair k.0 v.0 q.0, q.1)

-- Items up to a break. The number bounds the turns: more than the count of the bytes is enough.
unfoldable pub indefinite_trees_at : Parser Tree → ℕ → Parser Trees
indefinite_trees_at item n [] = Err (eof break_name (Small 1), [])
indefinite_trees_at item zero (b ∷ bs) = Err (eof break_name (Small 1), [])
indefinite_trees_at item (suc n) (b ∷ bs) =
    if b == break then Ok (no_trees, bs)
    else (item (b ∷ bs) >>= λ p. indefinite_trees_at item n p.1 >>= λ q. Ok (tree p.0 q.0, q.1))

unfoldable pub indefinite_pairs_at : Parser Tree → ℕ → Parser Pairs
indefinite_pairs_at item n [] = Err (eof break_name (Small 1), [])
indefinite_pairs_at item zero (b ∷ bs) = Err (eof break_name (Small 1), [])
indefinite_pairs_at item (suc n) (b ∷ bs) =
    if b == break then Ok (no_pairs, bs)
    else (item (b ∷ bs) >>= λ k. item k.1 >>= λ v. indefinite_pairs_at item n v.1
    >>= λ q. Ok (pair k.0 v.0 q.0, q.1))
