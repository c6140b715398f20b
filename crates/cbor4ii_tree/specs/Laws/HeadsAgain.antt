-- Heads and contents are read back, whatever follows them.
use Rattle.std.proofs.Common.{rules, ◌≡◌, ℕ, ◌+◌, ◌*◌, ◌%◌, ◌^◌, ◌<◌, List, ◌∷◌, ◌++◌, length, Ok}
use Rattle.std.proofs.Common.{refl, arith, le-ltb, length-append, take_at, drop_at, mod-eq_of_lt}
use Rattle.std.specs.Int.{bytes_high_first}
use Rattle.cbor4ii_items.specs.Head.{Width, in_first, one, two, four, eight, HeadFits, additional}
use Rattle.cbor4ii_items.specs.{Head.{byte_count, head}, Laws.Heads.length-bytes_high_first}
use Rattle.cbor4ii_tree.specs.Calls.Parse.{prefix_at, number_of_width, parse_argument}
use Rattle.cbor4ii_tree.specs.{Calls.Parse.argument_of_width, Laws.Numbers.low_bytes}

pub prefix_again : (name : List ℕ) (k : ℕ) (xs x : List ℕ) → length xs ≡ k
    → prefix_at name k (xs ++ x) ≡ Ok (xs, x)
prefix_again name k xs x e = search (rules, length-append, le-ltb, take_at, drop_at)

pub number_again : (asks : ℕ → ℕ → ℕ) (name : List ℕ) (k n : ℕ) (x : List ℕ) → n < 256 ^ k
    → number_of_width asks name k (bytes_high_first k n ++ x) ≡ Ok (n, x)
number_again asks name k n x h =
    search (rules, length-bytes_high_first, length-append, mod-eq_of_lt, le-ltb, take_at, drop_at, low_bytes)

pub argument_again : (asks : ℕ → ℕ → ℕ) (name : List ℕ) (major n : ℕ) (w : Width) (x : List ℕ)
    → HeadFits w n → parse_argument asks name w (32 * major + additional w n)
    (bytes_high_first (byte_count w) n ++ x) ≡ Ok (n, x)
unfolding parse_argument
argument_again asks name major n in_first x h =
    let low : (32 * major + n) % 32 ≡ n = omega arith in rw low refl
argument_again asks name major n one x h = number_again asks name 1 n x (omega arith)
argument_again asks name major n two x h = number_again asks name 2 n x h
argument_again asks name major n four x h = number_again asks name 4 n x h
argument_again asks name major n eight x h = number_again asks name 8 n x h

-- the same, where the bytes are known to be a head's and what follows it
pub argument_of : (name : List ℕ) (major n : ℕ) (w : Width) (b : ℕ) (bs after : List ℕ)
    → HeadFits w n → b ∷ bs ≡ head major n w ++ after
    → argument_of_width name w b bs ≡ Ok (n, after)
argument_of name major n w b bs after h e = search (rules, argument_again)
