-- Signed integers are read exactly as they are encoded.
use Rattle.std.proofs.Common.{rules}
use Rattle.std.proofs.Common.{◌≡◌, ℕ, ◌/◌, ◌<◌, ◌≤◌, List, ◌∷◌, ◌++◌, length, drop}
use Rattle.std.proofs.Common.{take, Ok, true, refl, sym, ap, ◌∙◌, eqb, eq-eqb, ltb, lt-ltb}
use Rattle.std.specs.Prelude.{ℤ, pos, negsuc}
use Rattle.cbor4ii_items.specs.Reading.{Reading, peek_at, go_on, ◌>=>◌}
use Rattle.cbor4ii_items.specs.Heads.{ReadsHead}
use Rattle.cbor4ii_items.specs.ReadNumber.{below, head_below_at, as_positive, as_negative}
use Rattle.cbor4ii_items.specs.ReadNumber.{signed_by, signed_at}
use Rattle.cbor4ii_items.specs.Numbers.{ReadsSigned, signed_format}
use Rattle.cbor4ii_items.specs.Decoding.{IsLawful}
use Rattle.cbor4ii_items.specs.Laws.Heads.{head_read, head_alone, additional-lt}
use Rattle.cbor4ii_items.specs.Laws.Arguments.{ReadBy, leaf_one, leaf_within, leaf_positive}

-- the first byte of an item says its major type
pub record StartsWithMajor (major : ℕ) (xs : List ℕ) : Type 0 where
  pub first : ℕ
  pub others : List ℕ
  pub is : xs ≡ first ∷ others
  pub type : first / 32 ≡ major

pub starts : (major width : ℕ) (xs : List ℕ) (v n : ℕ) → ReadsHead major width xs v n
    → StartsWithMajor major xs
starts major width xs v n h = search (rules, additional-lt)

pub peek_first : (name : List ℕ) (b : ℕ) (bs xs : List ℕ) → xs ≡ b ∷ bs
    → peek_at name 1 xs ≡ Ok (b, xs)
peek_first name b bs xs e = ap (peek_at name 1) e ∙ ap (λ (zs : List ℕ). Ok (b, zs)) (sym e)

pub below_again : (name : List ℕ) (limit v : ℕ) (ys : List ℕ) → v < limit
    → below name limit v ys ≡ Ok (v, ys)
below_again name limit v ys h = let t : ltb v limit ≡ true = lt-ltb v limit h in rw t refl

half_again : (name : List ℕ) (major width limit : ℕ) (xs : List ℕ) (v n : ℕ) → major < 8
    → ReadsHead major width xs v n → v < limit
    → head_below_at name major width limit xs ≡ Ok (v, drop n xs)
half_again name major width limit xs v n m h small = search (rules, head_read, below_again)

pub signed_positive_by : (name plus minus : List ℕ) (width limit b : ℕ) → b / 32 ≡ 0
    → signed_by name plus minus width limit b ≡ (head_below_at plus 0 width limit >=> as_positive)
signed_positive_by name plus minus width limit b e =
    let t : eqb (b / 32) 0 ≡ true = eq-eqb (b / 32) 0 e in rw t refl

pub signed_negative_by : (name plus minus : List ℕ) (width limit b : ℕ) → b / 32 ≡ 1
    → signed_by name plus minus width limit b ≡ (head_below_at minus 1 width limit >=> as_negative)
signed_negative_by name plus minus width limit b e = let t : b / 32 ≡ 1 = e in rw t refl

-- where a byte comes first, the program that looks at it is the one that the byte chooses
pub first_says : {V : Type 0} (name : List ℕ) (choose : ℕ → Reading V) (f : Reading V) (b : ℕ)
    (bs xs : List ℕ) → xs ≡ b ∷ bs → choose b ≡ f → (peek_at name 1 >=> choose) xs ≡ f xs
first_says name choose f b bs xs is e =
    ap (λ z. go_on z choose) (peek_first name b bs xs is) ∙ ap (λ p. p xs) e

-- as a head, after which its argument is taken for a value
pub says_head : {V : Type 0} (program : Reading V) (major width : ℕ) (xs : List ℕ) (v : V)
    (k n c : ℕ) → major < 8 → ReadsHead major width xs k n → program xs ≡ Ok (v, drop n xs) → c ≡ 0
    → ReadBy program xs v n c
says_head program major width xs v k n c m h answer cost = search (rules, head_read)

pub signed_again : (name plus minus : List ℕ) (width limit : ℕ) (xs : List ℕ) (v : ℤ) (n c : ℕ)
    → ReadsSigned width limit xs v n c → ReadBy (signed_at name plus minus width limit) xs v n c
signed_again name plus minus width limit xs (pos k) n c p =
    search (rules, starts, says_head, first_says, signed_positive_by, half_again)
signed_again name plus minus width limit xs (negsuc k) n c p =
    search (rules, starts, says_head, first_says, signed_negative_by, half_again)

pub signed_one : (width limit : ℕ) (xs : List ℕ) (v w : ℤ) (n m c d : ℕ)
    → ReadsSigned width limit xs v n c → ReadsSigned width limit xs w m d
    → (n ≡ m) × (c ≡ d) × (v ≡ w)
signed_one width limit = search (rules, leaf_one, signed_again)

pub signed_within : (width limit : ℕ) (xs : List ℕ) (v : ℤ) (n c : ℕ)
    → ReadsSigned width limit xs v n c → n ≤ length xs
signed_within width limit = search (rules, leaf_within, signed_again)

pub signed_positive : (width limit : ℕ) (xs : List ℕ) (v : ℤ) (n c : ℕ)
    → ReadsSigned width limit xs v n c → 1 ≤ n
signed_positive width limit = search (rules, leaf_positive, signed_again)

pub signed_alone : (width limit : ℕ) (xs ys : List ℕ) (v : ℤ) (n c : ℕ)
    → ReadsSigned width limit xs v n c → ReadsSigned width limit (take n xs ++ ys) v n c
signed_alone width limit xs ys (pos k) n c p = (head_alone 0 width xs ys k n p.0, p.1, p.2)
signed_alone width limit xs ys (negsuc k) n c p = (head_alone 1 width xs ys k n p.0, p.1, p.2)

pub signed_lawful : (name plus minus : List ℕ) (width limit : ℕ)
    → IsLawful (signed_format name plus minus width limit)
signed_lawful name plus minus width limit = search rules
